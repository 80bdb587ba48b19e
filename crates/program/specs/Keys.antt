-- The widths of the keys of a program's tables, in the slots that the judge of form leaves and that entries and look-ups
-- go by: as many slots for each table as it may have keys.
use Rattle.std.proofs.Math.Option.{some}
use Rattle.std.specs.Prelude.{◌≡◌, List, ℕ, ◌+◌, ◌*◌, ◌≤◌, get_or}
use Rattle.std.proofs.Math.ListN.{get_elem?}
use Rattle.rules.specs.Words.{widest}
use Rattle.rules.specs.Syntax.{Key, Table, Program}
use Rattle.rules.specs.Reading.{most_keys}
use Rattle.rules.specs.Lists.{key_width}

pub record WidthsOf (P : Program) (widths : List ℕ) : Type 0 where
  pub is : (t j : ℕ) (T : Table) (k : Key) → get_elem? P.tables t ≡ some T → get_elem? T.keys j ≡ some k
      → get_or widths (most_keys * t + j) 0 ≡ key_width P k
  pub most : (t j : ℕ) (T : Table) (k : Key) → get_elem? P.tables t ≡ some T → get_elem? T.keys j ≡ some k
      → get_or widths (most_keys * t + j) 0 ≤ widest
