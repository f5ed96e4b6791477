-- Worked examples of pretty-printed texts, computed independently of the definitions.
use Rattle.std.specs.Prelude.{ℕ, ◌≡◌, ◌++◌, true, List, codes}
use Rattle.text_pretty.specs.declared.break_point.BreakPoint.TheVariants as break_points
use Rattle.text_pretty.specs.PrettyLines.{pretty}
use Rattle.text_pretty.specs.Narrow.{is_regular}

-- The plain text has this pretty text, and the brackets of the plain text occur as in the texts of
-- values.
abbrev pub IsLaid : List ℕ → List ℕ → Type 0
IsLaid plain lines = (pretty plain ≡ lines) × (is_regular break_points.Outside plain ≡ true)

pub record WorkedLineRows : Type 0 where
  -- A list that fits a line.
  pub short_list : IsLaid
      (codes "::(1, ::(2, ::(3, ::(4, ::(5, [])))))")
      (codes "::(1, ::(2, ::(3, ::(4, ::(5, [])))))")
  pub empty_list : IsLaid
      (codes "[]")
      (codes "[]")
  -- A list that does not fit a line. The remaining items have the indentation of the list.
  pub long_list : IsLaid
      (codes "::(1001, ::(1002, ::(1003, ::(1004, ::(1005, ::(1006, ::(1007, ::(1008, ::(100"
      ++ codes "9, ::(1010, ::(1011, ::(1012, []))))))))))))")
      (codes "::(1001\n, ::(1002\n, ::(1003\n, ::(1004\n"
      ++ codes ", ::(1005\n, ::(1006\n, ::(1007\n, ::(1008\n"
      ++ codes ", ::(1009\n, ::(1010\n, ::(1011\n, ::(1012\n"
      ++ codes ", []))))))))))))")
  -- A record with a list and with a string in which no byte is a bracket.
  pub fields : IsLaid
      (codes "{name = \"a long name, of {a thing}\"; sizes = ::(100, ::(101, ::(102, ::(103,"
      ++ codes " ::(104, ::(105, ::(106, ::(107, ::(108, ::(109, ::(110, ::(111, [])))))))))))"
      ++ codes "); mark = ')'; x' = '\\''; last = None}")
      (codes "{\n  name = \"a long name, of {a thing}\"\n"
      ++ codes "; sizes = ::(100\n  , ::(101\n  , ::(102\n"
      ++ codes "  , ::(103\n  , ::(104\n  , ::(105\n  , ::(106\n"
      ++ codes "  , ::(107\n  , ::(108\n  , ::(109\n  , ::(110\n"
      ++ codes "  , ::(111\n  , []))))))))))))\n; mark = ')'\n"
      ++ codes "; x' = '\\''\n; last = None\n}")
  -- Constructors with arguments.
  pub variants : IsLaid
      (codes "Node(Leaf(\"left [of] {it}\"), Some({key = 12; word = \"a word with (brackets)"
      ++ codes " and \\\" quotes\"}), `Leaf('('))")
      (codes "Node(\n  Leaf(\"left [of] {it}\")\n, Some({key = 12; word = \"a word with (bra"
      ++ codes "ckets) and \\\" quotes\"})\n, `Leaf('(')\n"
      ++ codes ")")
  -- A label comes before its part.
  pub labels : IsLaid
      (codes "#0=::(#1={x = 1; y = \"aaaaaaaaaaaaaaaaaaaaaaaaaaaaaaaaaaaaaaaaaaaaaaaaaa\"; z"
      ++ codes " = #2=ref(1)}, ::(#1, #0))")
      (codes "#0=::(#1={\n    x = 1\n  ; y = \"aaaaaaaaaaaaaaaaaaaaaaaaaaaaaaaaaaaaaaaaaaaaa"
      ++ codes "aaaaa\"\n  ; z = #2=ref(1)\n  }\n, ::(#1\n"
      ++ codes ", #0))")
  -- An array, whose brackets have two bytes.
  pub array : IsLaid
      (codes "[|#0=\"aaaaaaaaaaaaaaaaaaaaaaaaaaaaaa\"; \"bbbbbbbbbbbbbbbbbbbbbbbbbbbbbbbbbbb"
      ++ codes "bbbbbbbbbbbbbbb\"; #0; [||]|]")
      (codes "[|\n  #0=\"aaaaaaaaaaaaaaaaaaaaaaaaaaaaaa\"\n"
      ++ codes "; \"bbbbbbbbbbbbbbbbbbbbbbbbbbbbbbbbbbbbbbbbbbbbbbbbbb\"\n"
      ++ codes "; #0\n; [||]\n|]")
  -- A bracket that ends in column 80.
  pub room : IsLaid
      (codes "(\"xxxxxxxxxxxxxxxxxxxxxxxxxxxxxxxxxxxxxxxxxxxxxxxxxxxxxxxxxxxxxxxxxxxxxxxxx\""
      ++ codes ", 1)")
      (codes "(\"xxxxxxxxxxxxxxxxxxxxxxxxxxxxxxxxxxxxxxxxxxxxxxxxxxxxxxxxxxxxxxxxxxxxxxxxx\""
      ++ codes ", 1)")
  -- A bracket that would end in column 81.
  pub no_room : IsLaid
      (codes "(\"xxxxxxxxxxxxxxxxxxxxxxxxxxxxxxxxxxxxxxxxxxxxxxxxxxxxxxxxxxxxxxxxxxxxxxxxxx"
      ++ codes "\", 1)")
      (codes "(\n  \"xxxxxxxxxxxxxxxxxxxxxxxxxxxxxxxxxxxxxxxxxxxxxxxxxxxxxxxxxxxxxxxxxxxxxxx"
      ++ codes "xxx\"\n, 1\n)")
  -- No line begins inside a word.
  pub word : IsLaid
      (codes "C(\"xxxxxxxxxxxxxxxxxxxxxxxxxxxxxxxxxxxxxxxxxxxxxxxxxxxxxxxxxxxxxxxxxxxxxxxxxx"
      ++ codes "xxxxxxxxxxxxxxxx\")")
      (codes "C(\n  \"xxxxxxxxxxxxxxxxxxxxxxxxxxxxxxxxxxxxxxxxxxxxxxxxxxxxxxxxxxxxxxxxxxxxxx"
      ++ codes "xxxxxxxxxxxxxxxxxxxx\"\n)")
