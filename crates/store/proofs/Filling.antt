-- The loop that copies numbers into slots: what is filled so far. And numbers that stand one after the other, once they
-- are copied.
use mathlib.Core.Path.{◌≡◌, ◌∙◌}
use mathlib.Core.List.{List, [], ◌∷◌}
use Prim.Native.Nat.{ℕ, zero, suc, ◌+◌, ◌≤◌, ◌<◌}
use native.Mathlib.Omega.{arith}
use lib.ListN.{length, get_or}
use Rattle.rules.specs.Numbers.{most_bytes}
use Rattle.program.specs.Stands.{Holds}
use Rattle.lists.specs.Stands.{HoldsAll}
use Rattle.store.specs.Fills.{AsksCopy, Copies}

holds_at : (nums : List ℕ) (at : ℕ) (ns : List ℕ) → HoldsAll nums at ns → (j : ℕ) → j < length ns
    → Holds nums (at + j) (get_or ns j 0)
unfolding HoldsAll
holds_at nums at [] h j l = absurd (omega arith)
holds_at nums at (n ∷ ns) h zero l =
    let e : at + 0 ≡ at = omega arith in
    rw e h.0
holds_at nums at (n ∷ ns) h (suc j) l =
    let e : at + suc j ≡ at + 1 + j = omega arith in
    rw e (holds_at nums (at + 1) ns h.1 j (omega arith))

pub copy-asks : (nums slots : List ℕ) (from count : ℕ) (ns : List ℕ) → length nums ≤ most_bytes → HoldsAll nums from ns
    → count ≡ length ns → count ≤ length slots → AsksCopy nums slots from count
copy-asks nums slots from count ns few h e room = record {
  numbers = few;
  inside = λ i l. (holds_at nums from ns h i (omega arith)).inside;
  room = room;
}

pub copied_is : (nums slots slots' : List ℕ) (from count : ℕ) (ns : List ℕ) → Copies nums slots slots' from count
    → HoldsAll nums from ns → count ≡ length ns → (i : ℕ) → i < length ns → get_or slots' i 0 ≡ get_or ns i 0
copied_is nums slots slots' from count ns c h e i l =
    c.copied i (omega arith) ∙ (holds_at nums from ns h i l).is

pub record Filling (nums slots₀ slots : List ℕ) (from count at : ℕ) : Type 0 where
  pub asks : AsksCopy nums slots₀ from count
  pub up : at ≤ count
  pub same : length slots ≡ length slots₀
  pub filled : (j : ℕ) → j < at → get_or slots j 0 ≡ get_or nums (from + j) 0
  pub left : (j : ℕ) → at ≤ j → get_or slots j 0 ≡ get_or slots₀ j 0
