-- The loop over the lexemes of a file.
use Rattle.std.proofs.Common.{ℕ, suc, ◌≡◌, ◌≤◌, ◌<◌, ◌⊎◌, List, [], ◌∷◌, ◌++◌, length, take, Option, Some, None, refl, subst}
use Rattle.types_lex.specs.declared.lexeme.LexemeKind.{LexemeKind}
use Rattle.types_parse.specs.grammar.Grammar.{Kinds, file_kinds}
use Rattle.types_parse.specs.grammar.Depths.{file_ends}
use Rattle.types_parse.specs.grammar.Refusals.{opened, IsTooDeep, IsRefusedAsSyntax}
use Rattle.types_parse.specs.grammar.Holes.{step}
use Rattle.types_parse.specs.grammar.File.{FileState, declarations, file_accepted}
use Rattle.types_parse.proofs.grammar.FileTable.{file_table}
use Rattle.types_parse.proofs.grammar.TypeGrammarReachedLemmas.{Reached, Moved, reached_first, refused_syntax, refused_end, read_whole, refused_deep, reached_next}
use Rattle.types_spec.specs.declared.types.ty.TypeTreeNode.{TypeTreeNode}
use Rattle.types_spec.specs.declared.types.decl.Decl.{Decl}
use Rattle.types_parse.specs.parse.WrittenTrees.{declarations_of}
use Rattle.types_parse.specs.parse.Parsed.{AreDeclarationsOf}
use Rattle.types_parse.specs.declared.parse.open.OpenConstruct.{OpenConstruct}
use Rattle.types_parse.specs.declared.parse.declarations_so_far.FilePhase.{FilePhase}
use Rattle.types_parse.specs.declared.parse.declarations_so_far.FilePhase.TheVariants as files
use Rattle.types_parse.specs.parse.FileCode.{FileStep, file_step_code, file_depth_code, file_whole_code, FileStepIs}
use Rattle.types_parse.specs.parse.FileShown.{file_shown, IsReadable}
use Rattle.types_parse.proofs.parse.ParserFileLemmas.{FollowsFile, file_follows, file_depth_follows}
use Rattle.types_parse.proofs.parse.FileEnd.{EndsFile, file_ends_follow}

abbrev pub FileReached : Kinds → List TypeTreeNode → List OpenConstruct → FilePhase → ℕ → ℕ → Type 0
FileReached lexemes ns fs phase count position = Reached file_table lexemes (file_shown ns fs phase)
    count position

pub file_reached_first : (lexemes : Kinds) → FileReached lexemes [] [] (files.FileDue []) 0 0
file_reached_first lexemes = reached_first file_table lexemes (file_shown [] [] (files.FileDue []))
    (refl, refl, refl)

-- If the code continues, then the table continues.
goes_on : (s : FileState) (kind : LexemeKind) (field : Option FilePhase) (next : FilePhase)
    (ns : List TypeTreeNode) (fs : List OpenConstruct) (code : FileStep) → field ≡ Some next →
    FileStepIs field ns fs code → FollowsFile (step declarations s kind) code →
    Moved (step declarations) (file_shown ns fs next) kind s
goes_on s kind field next ns fs code e i f =
    let g = subst (λ x. FileStepIs x ns fs code) e i in
    let h = subst (FollowsFile (step declarations s kind)) g f in
    record { next = h.0; moved = h.1; shown = h.2 }

-- If the code fails, then the table fails.
stops_here : (s : FileState) (kind : LexemeKind) (field : Option FilePhase) (ns : List TypeTreeNode)
    (fs : List OpenConstruct) (code : FileStep) → field ≡ None → FileStepIs field ns fs code →
    FollowsFile (step declarations s kind) code → step declarations s kind ≡ None
stops_here s kind field ns fs code e i f = let g = subst (λ x. FileStepIs x ns fs code) e i in
    subst (FollowsFile (step declarations s kind)) g f

module _ {lexemes : Kinds} {ns : List TypeTreeNode} {fs : List OpenConstruct} {phase : FilePhase} {count position : ℕ}
    (here : FileReached lexemes ns fs phase count position) where
  pub file_readable : IsReadable ns fs phase
  file_readable = (here.state, here.shown)

  pub file_end_refused : length lexemes ≤ position → file_whole_code ns fs phase ≡ None →
      IsRefusedAsSyntax file_kinds file_ends lexemes position
  file_end_refused h e = refused_end file_table lexemes here h
      (λ s shown. subst (EndsFile (file_accepted s)) e (file_ends_follow s ns fs phase shown))

  pub file_is_read : (all : List Decl) → length lexemes ≤ position → file_whole_code ns fs phase
      ≡ Some all → AreDeclarationsOf lexemes all
  file_is_read all h e =
      let found = read_whole file_table lexemes here (λ t. all ≡ declarations_of t) h
      (λ s shown. subst (EndsFile (file_accepted s)) e (file_ends_follow s ns fs phase shown))
      in
      record { tree = found.0; reads = found.1; stand = found.2 }

  module _ (kind : LexemeKind) (h : position < length lexemes) (e : take (suc position) lexemes
      ≡ take position lexemes ++ kind ∷ []) where
    pub file_syntax : (field : Option FilePhase) (all : List TypeTreeNode) (frames : List OpenConstruct) → field
        ≡ None → FileStepIs field all frames (file_step_code ns fs phase kind) →
        IsRefusedAsSyntax file_kinds file_ends lexemes position
    file_syntax field all frames n i = refused_syntax file_table lexemes here kind h e
        (λ s shown. stops_here s kind field all frames (file_step_code ns fs phase kind) n i
        (file_follows s ns fs phase kind shown))

    module _ (field : Option FilePhase) (next : FilePhase) (all : List TypeTreeNode) (frames : List OpenConstruct)
        (g : field ≡ Some next) (i : FileStepIs field all frames (file_step_code ns fs phase kind))
      where
        moves : (s : FileState) → file_shown ns fs phase s → Moved (step declarations)
            (file_shown all frames next) kind s
        moves s shown = goes_on s kind field next all frames (file_step_code ns fs phase kind) g i
            (file_follows s ns fs phase kind shown)

        pub file_too_deep : (200 < opened kind count) ⊎ (200 < file_depth_code frames next) →
            IsTooDeep file_kinds file_ends lexemes position
        file_too_deep d = refused_deep file_table lexemes here kind h e moves
            (file_depth_code frames next) (λ s shown. file_depth_follows s all frames next shown) d

        pub file_reached_next : opened kind count ≤ 200 → file_depth_code frames next ≤ 200 →
            FileReached lexemes all frames next (opened kind count) (suc position)
        file_reached_next few low = reached_next file_table lexemes here kind h e moves
            (file_depth_code frames next) (λ s shown. file_depth_follows s all frames next shown) few
            low
