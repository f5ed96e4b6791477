use Rattle.std.proofs.Common.{◌≡◌, ◌+◌, ◌≤◌, ◌++◌, take, drop}
use Rattle.marshal_heap.proofs.heap.objects.append_copy.Given as goal

abbrev pub invariant-loop-k : goal.invariant-loop-k
invariant-loop-k l = record {
  words : l.region.words ≡ l.initial.region.words ++ take l.k (drop l.from l.initial.region.words);
  spare : l.n ≤ l.region.spare + l.k;
}
