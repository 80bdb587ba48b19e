-- What a look-up asks of the entries is what the judge of the lists leaves: the place of each in its slot.
use mathlib.Core.Option.{some}
use mathlib.Core.Path.{◌≡◌, refl}
use mathlib.Core.List.{List, [], ◌∷◌}
use Prim.Native.Nat.{ℕ, suc, ◌+◌}
use native.Mathlib.Omega.{arith}
use lib.ListN.{get_or, get_elem?}
use Rattle.rules.specs.Syntax.{Program}
use Rattle.rules.specs.Lists.{Entry}
use Rattle.lists.specs.Stands.{StandsEntry, ListsStand}
use Rattle.lookup.specs.LookingUp.{StandsEntries}

-- entries that stand by their numbers stand one after the other
in-turn : (P : Program) (nums entries : List ℕ) (i : ℕ) (es : List Entry)
    → ((k : ℕ) (e : Entry) → get_elem? es k ≡ some e → StandsEntry P nums (get_or entries (i + k) 0) e)
    → StandsEntries P nums entries i es
unfolding StandsEntries
in-turn P nums entries i [] h = tt
in-turn P nums entries i (e ∷ es) h =
    let here : i + 0 ≡ i = omega arith in (
      rw here at (h 0 e refl),
      in-turn P nums entries (i + 1) es λ k x q.
          let further : i + suc k ≡ i + 1 + k = omega arith in
          rw further at (h (suc k) x q),
    )

pub entries-stand : {P : Program} {end : ℕ} {nums entries offsets : List ℕ} {store size : ℕ}
    → (h : ListsStand P end nums entries offsets store size) → StandsEntries P nums entries 1 h.entry_list
entries-stand {P = P} {nums = nums} {entries = entries} h =
    in-turn P nums entries 1 h.entry_list λ k e q.
    let there : suc k ≡ 1 + k = omega arith in
    rw there at (h.entry k e q)
