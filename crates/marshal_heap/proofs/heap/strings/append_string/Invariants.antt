use Rattle.std.proofs.Common.{◌≡◌, ◌+◌, ◌/◌, ◌≤◌, ◌++◌, length, map}
use Rattle.std.specs.List.{range_with_len}
use Rattle.marshal_heap.specs.heap.ObjectWords.{padded, word_at}
use Rattle.marshal_heap.proofs.heap.strings.append_string.Given as goal

abbrev pub invariant-loop-j : goal.invariant-loop-j
invariant-loop-j l = record {
  words : l.region.words ≡ l.initial.region.words ++ map (word_at (padded l.content)) (range_with_len 0 l.j);
  spare : length l.content / 8 + 1 ≤ l.region.spare + l.j;
}
