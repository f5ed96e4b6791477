-- The parsing table of types on indices of nodes: what the code does at a lexeme.
use Rattle.std.specs.Prelude.{ℕ, suc, ◌≡◌, min, max, Bool, true, false, Option, Some, None, Result}
use Rattle.std.specs.Prelude.{Ok, Err, List, [], ◌∷◌, ◌++◌, length, ⊤}
use Rattle.types_lex.specs.declared.lexeme.LexemeKind.{LexemeKind}
use Rattle.types_lex.specs.declared.lexeme.LexemeKind.TheVariants as kinds
use Rattle.types_lex.specs.declared.lexeme.Keyword.TheVariants as keywords
use Rattle.types_lex.specs.declared.lexeme.Symbol.TheVariants as symbols
use Rattle.types_spec.specs.declared.types.ty.TypeTreeNode.{TypeTreeNode}
use Rattle.types_spec.specs.declared.types.ty.TypeTreeNode.TheVariants as nodes
use Rattle.types_parse.specs.declared.parse.open.OpenPart.{OpenPart}
use Rattle.types_parse.specs.declared.parse.open.OpenConstruct.{OpenConstruct}
use Rattle.types_parse.specs.declared.parse.open.OpenConstruct.TheVariants as frames
use Rattle.types_parse.specs.declared.parse.open.ParsePhase.{ParsePhase}
use Rattle.types_parse.specs.declared.parse.open.ParsePhase.TheVariants as phases
use Rattle.types_parse.specs.declared.parse.open.OpenItem.{OpenItem}
use Rattle.types_parse.specs.declared.parse.open.OpenItem.TheVariants as items
use Rattle.types_parse.specs.declared.parse.open.TypeStep.{TypeStep}
use Rattle.types_parse.specs.declared.parse.open.TypeStep.TheVariants as steps

pub data StepCode : Type 0 where
  goes : (nodes : List TypeTreeNode) (frames : List OpenConstruct) (phase : ParsePhase) → StepCode
  ended : (nodes : List TypeTreeNode) (frames : List OpenConstruct) → StepCode
  stops : StepCode

abbrev pub deeper : ℕ → ℕ
deeper depth = min 201 (suc depth)

abbrev pub part : ℕ → ℕ → OpenPart
part node depth = record { node = node; depth = depth }

-- The step that appends a node, after which the new node is the part read last.
abbrev pub reads : List TypeTreeNode → List OpenConstruct → TypeTreeNode → ℕ → StepCode
reads ns fs node depth = goes (ns ++ node ∷ []) fs (phases.Read (part (length ns) depth))

abbrev pub begin_item_code : List TypeTreeNode → List OpenConstruct → LexemeKind → StepCode
begin_item_code ns (frames.Opened false n ∷ fs) (kinds.Symbol symbols.Bar) =
    goes ns (frames.Opened true n ∷ fs) phases.Due
begin_item_code ns (frames.Opened bar n ∷ fs) (kinds.Tag x) = goes ns (frames.Opened bar n ∷ fs)
    (phases.TagRead x)
begin_item_code ns (frames.Items r ∷ fs) (kinds.Tag x) = goes ns (frames.Items r ∷ fs)
    (phases.TagRead x)
begin_item_code ns fs kind = stops

abbrev pub begin_code : List TypeTreeNode → List OpenConstruct → LexemeKind → StepCode
begin_code ns fs (kinds.Variable x) = reads ns fs (nodes.Variable x) 1
begin_code ns fs (kinds.Lower x) = reads ns fs (nodes.Named x) 1
begin_code ns fs (kinds.Symbol symbols.OpenParen) = goes ns (frames.Group ∷ fs) phases.Due
begin_code ns fs (kinds.Symbol symbols.OpenBracket) = goes (ns ++ nodes.Bracket ∷ [])
    (frames.Opened false (length ns) ∷ fs) phases.Due
begin_code ns fs kind = begin_item_code ns fs kind

-- The node of the bracket `whole` with one further item.
abbrev pub item_node : ℕ → OpenItem → TypeTreeNode
item_node whole (items.Tag x) = nodes.Tag whole x
item_node whole (items.TagOf x t) = nodes.TagOf whole x t.node
item_node whole (items.Included t) = nodes.Including whole t.node

abbrev pub item_depth_code : OpenItem → ℕ
item_depth_code (items.Tag x) = 0
item_depth_code (items.TagOf x t) = t.depth
item_depth_code (items.Included t) = t.depth

abbrev pub after_items_code : List TypeTreeNode → List OpenConstruct → OpenPart → LexemeKind
    → StepCode
after_items_code ns fs r (kinds.Symbol symbols.Bar) = goes ns (frames.Items r ∷ fs) phases.Due
after_items_code ns fs r (kinds.Symbol symbols.CloseBracket) =
    goes ns fs (phases.Read (part r.node (deeper r.depth)))
after_items_code ns fs r kind = stops

abbrev pub after_item_code : List TypeTreeNode → List OpenConstruct → OpenItem → LexemeKind
    → StepCode
after_item_code ns (frames.Opened bar n ∷ fs) item kind =
    after_items_code (ns ++ item_node n item ∷ []) fs (part (length ns) (item_depth_code item)) kind
after_item_code ns (frames.Items r ∷ fs) item kind =
    after_items_code (ns ++ item_node r.node item ∷ []) fs
    (part (length ns) (max r.depth (item_depth_code item))) kind
after_item_code ns fs item kind = stops

abbrev pub after_group_code : List TypeTreeNode → List OpenConstruct → OpenPart → LexemeKind
    → StepCode
after_group_code ns fs t (kinds.Symbol symbols.CloseParen) =
    goes ns fs (phases.Read (part t.node (deeper t.depth)))
after_group_code ns fs t (kinds.Symbol symbols.Comma) =
    goes ns (frames.Arguments (t.node ∷ []) t.depth ∷ fs) phases.Due
after_group_code ns fs t kind = stops

abbrev pub after_argument_code : List TypeTreeNode → List OpenConstruct → List ℕ → ℕ → OpenPart
    → LexemeKind → StepCode
after_argument_code ns fs all depth t (kinds.Symbol symbols.CloseParen) =
    goes ns fs (phases.NameDue (all ++ t.node ∷ []) (max depth t.depth))
after_argument_code ns fs all depth t (kinds.Symbol symbols.Comma) =
    goes ns (frames.Arguments (all ++ t.node ∷ []) (max depth t.depth) ∷ fs) phases.Due
after_argument_code ns fs all depth t kind = stops

abbrev pub close_type_code : List TypeTreeNode → List OpenConstruct → OpenPart → LexemeKind
    → StepCode
close_type_code ns [] t kind = ended ns []
close_type_code ns (frames.Group ∷ fs) t kind = after_group_code ns fs t kind
close_type_code ns (frames.Arguments all depth ∷ fs) t kind = after_argument_code ns fs all depth t
    kind
close_type_code ns (frames.TagArgument x ∷ fs) t kind = after_item_code ns fs (items.TagOf x t) kind
close_type_code ns fs t kind = stops

abbrev pub after_single_code : List TypeTreeNode → List OpenConstruct → OpenPart → LexemeKind
    → StepCode
after_single_code ns fs a (kinds.Symbol symbols.Star) =
    goes (ns ++ nodes.Tuple ∷ [] ++ nodes.Part (length ns) a.node ∷ [])
    (frames.Component (part (length (ns ++ nodes.Tuple ∷ [])) a.depth) ∷ fs) phases.Due
after_single_code ns fs a kind = close_type_code ns fs a kind

abbrev pub after_tuple_code : List TypeTreeNode → List OpenConstruct → OpenPart → OpenPart
    → LexemeKind → StepCode
after_tuple_code ns fs r a (kinds.Symbol symbols.Star) = goes (ns ++ nodes.Part r.node a.node ∷ [])
    (frames.Component (part (length ns) (max r.depth a.depth)) ∷ fs) phases.Due
after_tuple_code ns fs r a kind = close_type_code (ns ++ nodes.Part r.node a.node ∷ []) fs
    (part (length ns) (deeper (max r.depth a.depth))) kind

-- The step after a component outside of every frame. Unless the component stands alone, the
-- component may be the first of a tuple.
abbrev pub outermost_code : Bool → List TypeTreeNode → OpenPart → LexemeKind → StepCode
outermost_code true ns a kind = ended ns []
outermost_code false ns a kind = after_single_code ns [] a kind

abbrev pub close_part_code : Bool → List TypeTreeNode → List OpenConstruct → OpenPart → LexemeKind
    → StepCode
close_part_code alone ns [] a kind = outermost_code alone ns a kind
close_part_code alone ns (frames.Component r ∷ fs) a kind = after_tuple_code ns fs r a kind
close_part_code alone ns (frames.Opened bar n ∷ fs) a kind =
    after_item_code ns (frames.Opened bar n ∷ fs) (items.Included a) kind
close_part_code alone ns (frames.Items r ∷ fs) a kind = after_item_code ns (frames.Items r ∷ fs)
    (items.Included a) kind
close_part_code alone ns fs a kind = after_single_code ns fs a kind

abbrev pub after_part_code : Bool → List TypeTreeNode → List OpenConstruct → OpenPart → LexemeKind
    → StepCode
after_part_code alone ns fs a (kinds.Lower x) = reads (ns ++ nodes.Named x ∷ []) fs
    (nodes.Part (length ns) a.node) (deeper a.depth)
after_part_code alone ns fs a kind = close_part_code alone ns fs a kind

-- The nodes after a list of parts was added to node `n`.
abbrev pub parts_nodes : List TypeTreeNode → ℕ → List ℕ → List TypeTreeNode
parts_nodes ns n [] = ns
parts_nodes ns n (a ∷ more) = parts_nodes (ns ++ nodes.Part n a ∷ []) (length ns) more

abbrev pub parts_node : List TypeTreeNode → ℕ → List ℕ → ℕ
parts_node ns n [] = n
parts_node ns n (a ∷ more) = parts_node (ns ++ nodes.Part n a ∷ []) (length ns) more

abbrev pub take_name_code : List TypeTreeNode → List OpenConstruct → List ℕ → ℕ → LexemeKind
    → StepCode
take_name_code ns fs all depth (kinds.Lower x) =
    goes (parts_nodes (ns ++ nodes.Named x ∷ []) (length ns) all) fs
    (phases.Read (part (parts_node (ns ++ nodes.Named x ∷ []) (length ns) all) (deeper depth)))
take_name_code ns fs all depth kind = stops

abbrev pub after_tag_code : List TypeTreeNode → List OpenConstruct → List ℕ → LexemeKind → StepCode
after_tag_code ns fs x (kinds.Keyword keywords.Of) = goes ns (frames.TagArgument x ∷ fs) phases.Due
after_tag_code ns fs x kind = after_item_code ns fs (items.Tag x) kind

abbrev pub step_code : Bool → List TypeTreeNode → List OpenConstruct → ParsePhase → LexemeKind
    → StepCode
step_code alone ns fs phases.Due kind = begin_code ns fs kind
step_code alone ns fs (phases.Read a) kind = after_part_code alone ns fs a kind
step_code alone ns fs (phases.NameDue all depth) kind = take_name_code ns fs all depth kind
step_code alone ns fs (phases.TagRead x) kind = after_tag_code ns fs x kind

-- The depth of the deepest type that ends at the last lexeme. Depths above 200 become 201.
abbrev pub part_depth_code : List OpenConstruct → OpenPart → ℕ
part_depth_code (frames.Component r ∷ fs) a = deeper (max r.depth a.depth)
part_depth_code fs a = a.depth

abbrev pub depth_code : List OpenConstruct → ParsePhase → ℕ
depth_code fs (phases.Read a) = part_depth_code fs a
depth_code fs phase = 0

-- The nodes of the complete type, or `None` if a construct is open.
abbrev pub whole_part_code : List TypeTreeNode → List OpenConstruct → OpenPart
    → Option (List TypeTreeNode)
whole_part_code ns [] a = Some ns
whole_part_code ns (frames.Component r ∷ []) a = Some (ns ++ nodes.Part r.node a.node ∷ [])
whole_part_code ns fs a = None

abbrev pub whole_code : List TypeTreeNode → List OpenConstruct → ParsePhase
    → Option (List TypeTreeNode)
whole_code ns fs (phases.Read a) = whole_part_code ns fs a
whole_code ns fs phase = None

-- ---- the result of a step, unless memory runs out

abbrev pub StepIs : TypeStep → List TypeTreeNode → List OpenConstruct → StepCode → Type 0
StepIs (steps.Goes phase) ns fs next = next ≡ goes ns fs phase
StepIs steps.Ended ns fs next = next ≡ ended ns fs
StepIs steps.Stops ns fs next = next ≡ stops

abbrev pub Steps : {E : Type 0} → Result TypeStep E → List TypeTreeNode → List OpenConstruct
    → StepCode → Type 0
Steps (Ok step) ns fs next = StepIs step ns fs next
Steps (Err e) ns fs next = ⊤

abbrev pub WholeIs : Bool → List TypeTreeNode → Option (List TypeTreeNode) → Type 0
WholeIs true ns found = found ≡ Some ns
WholeIs false ns found = found ≡ None

abbrev pub Finds : {E : Type 0} → Result Bool E → List TypeTreeNode → Option (List TypeTreeNode)
    → Type 0
Finds (Ok whole) ns found = WholeIs whole ns found
Finds (Err e) ns found = ⊤
