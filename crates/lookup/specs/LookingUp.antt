-- The look-up of a table: whether the longest prefix wins, and the entry that is found, as the rules say.
use Rattle.std.specs.Prelude.{Bool, true, false, not, ◌≡◌, List, [], ◌∷◌, ℕ, ◌+◌, ◌*◌, ◌≤◌, eqb, length, get_or, Option, Some, None}
use Rattle.std.proofs.Math.Option.{some}
use Rattle.std.proofs.Math.ListN.{get_elem?}
use Rattle.rules.specs.Numbers.{most_bytes}
use Rattle.rules.specs.Syntax.{KeyKind, Key, Table, Program}
use Rattle.rules.specs.Reading.{most_keys, most_tables}
use Rattle.rules.specs.Lists as Lists
use Rattle.rules.specs.Running.{Worked, prefix_of, any_key, longest_wins, better, look_up, entries_of, entries_fit}
use Rattle.rules.specs.Running as rules
use Rattle.shape.specs.Directory.{entries_slot, widths_slot, slot_count}
use Rattle.program.specs.Codes.{key_kind_number}
use Rattle.program.specs.Stands.{Holds, StandsKeys, StandsTable}
use Rattle.lists.specs.Stands.{HoldsAll, StandsEntry}
use Rattle.lookup.specs.Matching.{StandsAllWorked, widths_of}
use Rattle.lookup.specs.declared.Best.{Best}
use Rattle.lookup.specs.declared.Lookup.{Lookup}
use Rattle.lookup.specs.declared.Lookup.TheVariants as Lookups
use Rattle.lookup.specs.declared.Lookup.TheVariants.{Found}

-- keys one after the other, the first of which stands at an index
pub record AsksKeys (nums ends : List ℕ) (from count : ℕ) : Type 0 where
  pub key_list : List Key
  pub stand : StandsKeys nums ends from key_list
  pub counts : count ≡ length key_list
  pub numbers : length nums ≤ most_bytes
  pub room : length nums ≤ length ends

unfoldable pub of_kind : ℕ → KeyKind → Bool
of_kind number kind = eqb (key_kind_number kind) number

pub record TellsAny (nums ends : List ℕ) (number from count : ℕ) (r : Bool) : Type 0 where
  pub told : (ks : List Key) → StandsKeys nums ends from ks → count ≡ length ks → r ≡ any_key (of_kind number) ks

pub record TellsLongest (nums ends : List ℕ) (from count : ℕ) (r : Bool) : Type 0 where
  pub told : (ks : List Key) → StandsKeys nums ends from ks → count ≡ length ks → r ≡ longest_wins ks

-- an entry that is found: its action's position and arguments stand one after the other, and its prefix is kept
pub data BestStands (nums : List ℕ) : rules.Found → Option Best → Type 0 where
  entry : {e : Lists.Entry} {b : Best} → Holds nums b.action e.position
      → HoldsAll nums (b.action + 1) e.arguments → b.prefix ≡ prefix_of e.patterns
      → BestStands nums (rules.found e) (Some b)
  none : BestStands nums rules.nothing None

pub record TellsBetter (longest : Bool) (best : Option Best) (action prefix : ℕ) (r : Best) : Type 0 where
  pub told : (nums : List ℕ) (f : rules.Found) (e : Lists.Entry) → BestStands nums f best
      → BestStands nums (rules.found e) (Some (record { action = action; prefix = prefix }))
      → BestStands nums (better longest f e) (Some r)

-- a table, its keys as they were worked out, and an entry
pub record Sought (nums directory ends keys : List ℕ) (t table at : ℕ) (P : Program) (T : Table) (ws : List Worked)
    (e : Lists.Entry) : Type 0 where
  pub table_is : get_elem? P.tables t ≡ some T
  pub stands : StandsTable nums ends table T
  pub worked : StandsAllWorked directory keys (widths_slot + most_keys * t) 0 ws
  pub entry_stands : StandsEntry P nums at e
  pub fits : entries_fit P T (widths_of ws) (entries_of t (e ∷ [])) ≡ true

pub record AsksStep (nums directory ends keys : List ℕ) (t table at : ℕ) : Type 0 where
  pub program : Program
  pub table_at : Table
  pub worked : List Worked
  pub entry : Lists.Entry
  pub sought : Sought nums directory ends keys t table at program table_at worked entry
  pub own : get_or nums at 0 ≡ t
  pub numbers : length nums ≤ most_bytes
  pub room : length nums ≤ length ends
  pub few : t + 1 ≤ most_tables

pub record TellsStep (nums directory ends keys : List ℕ) (t table : ℕ) (longest : Bool) (at : ℕ) (best r : Option Best)
    : Type 0 where
  pub told : (P : Program) (T : Table) (ws : List Worked) (e : Lists.Entry)
      → Sought nums directory ends keys t table at P T ws e → (f : rules.Found) → BestStands nums f best
      → BestStands nums (look_up longest ws f (entries_of t (e ∷ []))) r

-- no later entry changes what is found
unfoldable pub settled_as : Bool → Option Best → Bool
settled_as longest (Some b) = not longest
settled_as longest None = false

-- entries whose places stand in slots one after the other
unfoldable pub StandsEntries : Program → List ℕ → List ℕ → ℕ → List Lists.Entry → Type 0
StandsEntries P nums slots i [] = Unit
StandsEntries P nums slots i (e ∷ es) =
    StandsEntry P nums (get_or slots i 0) e × StandsEntries P nums slots (i + 1) es

pub record SoughtIn (nums directory ends keys : List ℕ) (t table i left : ℕ) (P : Program) (T : Table)
    (ws : List Worked) (es : List Lists.Entry) : Type 0 where
  pub table_is : get_elem? P.tables t ≡ some T
  pub stands : StandsTable nums ends table T
  pub worked : StandsAllWorked directory keys (widths_slot + most_keys * t) 0 ws
  pub entries_stand : StandsEntries P nums directory i es
  pub counts : left ≡ length es
  pub fits : entries_fit P T (widths_of ws) (entries_of t es) ≡ true

pub record AsksLook (nums directory ends keys : List ℕ) (t table i left : ℕ) : Type 0 where
  pub program : Program
  pub table_at : Table
  pub worked : List Worked
  pub entry_list : List Lists.Entry
  pub sought : SoughtIn nums directory ends keys t table i left program table_at worked entry_list
  pub numbers : length nums ≤ most_bytes
  pub room : length nums ≤ length ends
  pub few : t + 1 ≤ most_tables
  pub slots : i + left ≤ slot_count

pub record TellsLook (nums directory ends keys : List ℕ) (t table : ℕ) (longest : Bool) (i left : ℕ)
    (best r : Option Best) : Type 0 where
  pub told : (P : Program) (T : Table) (ws : List Worked) (es : List Lists.Entry)
      → SoughtIn nums directory ends keys t table i left P T ws es → (f : rules.Found)
      → BestStands nums f best → BestStands nums (look_up longest ws f (entries_of t es)) r

-- what the look-up answers, without the prefix
pub data Looked (nums : List ℕ) : rules.Found → Lookup → Type 0 where
  entry_found : {e : Lists.Entry} {action : ℕ} → Holds nums action e.position
      → HoldsAll nums (action + 1) e.arguments → Looked nums (rules.found e) (Found action)
  nothing-found : Looked nums rules.nothing Lookups.Nothing

-- the whole look-up: the count of the entries stands in the first of their slots
pub record TellsLookUp (nums directory ends keys : List ℕ) (t table : ℕ) (r : Lookup) : Type 0 where
  pub told : (P : Program) (T : Table) (ws : List Worked) (es : List Lists.Entry)
      → SoughtIn nums directory ends keys t table (entries_slot + 1) (get_or directory entries_slot 0) P T ws es
      → Looked nums (look_up (longest_wins T.keys) ws rules.nothing (entries_of t es)) r
