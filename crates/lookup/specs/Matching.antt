-- An entry's patterns against the keys of its table, as they were worked out: the widths stand in slots of the
-- directory, the numbers in slots of their own.
use Rattle.std.specs.Prelude.{Bool, true, false, ◌≡◌, List, [], ◌∷◌, map, ℕ, ◌+◌, ◌≤◌, length, get_or, Option, Some, None}
use Rattle.rules.specs.Numbers.{most_bytes}
use Rattle.rules.specs.Words.{widest}
use Rattle.rules.specs.Syntax.{KeyKind, Key}
use Rattle.rules.specs.Reading.{most_keys}
use Rattle.rules.specs.Lists.{Pattern}
use Rattle.rules.specs.Running.{Worked, pattern_fits, patterns_fit, matches, matches_all, prefix_of}
use Rattle.shape.specs.Directory.{slot_count}
use Rattle.program.specs.Codes.{key_kind_number}
use Rattle.program.specs.Stands.{Holds, StandsKeys}
use Rattle.lists.specs.Listing.{pattern_size, patterns_size}
use Rattle.lists.specs.Stands.{StandsPattern, StandsPatterns}
use Rattle.lookup.specs.declared.Match.{Match}

-- a key that was worked out, in a slot of the widths and one of the numbers
pub record StandsWorked (directory keys : List ℕ) (slot j : ℕ) (k : Worked) : Type 0 where
  pub width : get_or directory slot 0 ≡ k.width
  pub number : get_or keys j 0 ≡ k.number
  pub most : k.width ≤ widest

unfoldable pub StandsAllWorked : List ℕ → List ℕ → ℕ → ℕ → List Worked → Type 0
StandsAllWorked directory keys slot j [] = Unit
StandsAllWorked directory keys slot j (k ∷ ks) =
    StandsWorked directory keys slot j k × StandsAllWorked directory keys (slot + 1) (j + 1) ks

unfoldable pub widths_of : List Worked → List ℕ
widths_of = map λ k. k.width

-- one key and one pattern
pub record KeyPattern (nums directory keys : List ℕ) (key_at slot j at : ℕ) (kind : KeyKind) (k : Worked) (p : Pattern)
    : Type 0 where
  pub kind_is : Holds nums key_at (key_kind_number kind)
  pub worked : StandsWorked directory keys slot j k
  pub stands : StandsPattern nums at kind p
  pub fits : pattern_fits k.width p ≡ true

pub record AsksOne (nums directory keys : List ℕ) (key_at slot j at : ℕ) : Type 0 where
  pub kind : KeyKind
  pub key : Worked
  pub pattern : Pattern
  pub stands : KeyPattern nums directory keys key_at slot j at kind key pattern
  pub numbers : length nums ≤ most_bytes
  pub slots : slot + 1 ≤ slot_count
  pub place : j + 1 ≤ most_keys

-- whether it matches, where the next pattern stands, and the prefix of an lpm key
unfoldable pub prefix_behind : Bool → ℕ → ℕ → ℕ
prefix_behind true prefix others = prefix
prefix_behind false prefix others = others

pub record TellsOne (nums directory keys : List ℕ) (key_at slot j at : ℕ) (match : Bool) (next : ℕ) (has_prefix : Bool)
    (prefix : ℕ) : Type 0 where
  pub told : (kind : KeyKind) (k : Worked) (p : Pattern) → KeyPattern nums directory keys key_at slot j at kind k p
      → match ≡ matches k.width p k.number
  pub next_is : (kind : KeyKind) (k : Worked) (p : Pattern) → KeyPattern nums directory keys key_at slot j at kind k p
      → next ≡ at + pattern_size p
  pub prefix_is : (kind : KeyKind) (k : Worked) (p : Pattern) → KeyPattern nums directory keys key_at slot j at kind k p
      → (ps : List Pattern) → prefix_of (p ∷ ps) ≡ prefix_behind has_prefix prefix (prefix_of ps)
  pub no_prefix : has_prefix ≡ false → prefix ≡ 0

-- all keys of a table and the patterns of an entry
pub record KeyPatterns (nums directory ends keys : List ℕ) (key_at count slot j at : ℕ) (ks : List Key) (ws : List Worked)
    (ps : List Pattern) : Type 0 where
  pub keys_stand : StandsKeys nums ends key_at ks
  pub counts : count ≡ length ks
  pub worked : StandsAllWorked directory keys slot j ws
  pub patterns : StandsPatterns nums at ks ps
  pub fits : patterns_fit (widths_of ws) ps ≡ true

pub record AsksMatch (nums directory ends keys : List ℕ) (key_at count slot j at : ℕ) : Type 0 where
  pub key_list : List Key
  pub worked : List Worked
  pub patterns : List Pattern
  pub stand : KeyPatterns nums directory ends keys key_at count slot j at key_list worked patterns
  pub numbers : length nums ≤ most_bytes
  pub room : length nums ≤ length ends
  pub slots : slot + count ≤ slot_count
  pub place : j + count ≤ most_keys

-- the cases of the answer
pub data Matched (at : ℕ) (ws : List Worked) (ps : List Pattern) : Option Match → Type 0 where
  matched : {m : Match} → matches_all ws ps ≡ true → m.prefix ≡ prefix_of ps → m.next ≡ at + patterns_size ps
      → Matched at ws ps (Some m)
  unmatched : matches_all ws ps ≡ false → Matched at ws ps None

pub record TellsMatch (nums directory ends keys : List ℕ) (key_at count slot j at : ℕ) (r : Option Match) : Type 0 where
  pub told : (ks : List Key) (ws : List Worked) (ps : List Pattern)
      → KeyPatterns nums directory ends keys key_at count slot j at ks ws ps → Matched at ws ps r
