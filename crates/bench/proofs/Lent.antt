-- Lists of slots: the first of them as they are filled, those behind them as they were.
use mathlib.Core.Path.{◌≡◌, refl, sym, ◌∙◌, ap}
use mathlib.Core.List.{List, ◌++◌}
use Prim.Native.Nat.{ℕ, ◌+◌, ◌-◌, ◌≤◌, ◌<◌}
use native.Mathlib.Omega.{arith}
use lib.ListN.{length, get_or, drop, length-append, length-drop, get_or-append}
use lib.Seq.{ext_get_or, get_or-drop, drop_at}
use borrow.Rule.Slice.PartMut.{put_mid, mid_of, drop_put, mid_len}
use Rattle.store.proofs.Flat.{Order, under, beyond, order}

-- behind the first part of two
append-behind : (ns ms : List ℕ) (i : ℕ) → get_or (ns ++ ms) (length ns + i) 0 ≡ get_or ms i 0
append-behind ns ms i =
    sym (get_or-drop (length ns) (ns ++ ms) i 0)
    ∙ ap (λ (z : List ℕ). get_or z i 0) (drop_at ns ms (length ns) refl)

pub first-filled : (n : ℕ) (ns slots slots' : List ℕ) → length ns ≡ n → n ≤ length slots
    → length slots' ≡ length slots → ((i : ℕ) → i < n → get_or slots' i 0 ≡ get_or ns i 0)
    → ((i : ℕ) → n ≤ i → get_or slots' i 0 ≡ get_or slots i 0) → slots' ≡ ns ++ drop n slots
first-filled n ns slots slots' long few same inside behind =
    ext_get_or 0 slots' (ns ++ drop n slots)
    (omega (arith, same, few, long, length-append ns (drop n slots), length-drop n slots))
    λ i l. go i (order i n)
  where
    go : (i : ℕ) → Order i n → get_or slots' i 0 ≡ get_or (ns ++ drop n slots) i 0
    go i (under h) = inside i h ∙ sym (get_or-append ns (drop n slots) 0 i (omega (arith, long)))
    go i (beyond h) =
        let e : length ns + (i - n) ≡ i = omega (arith, long) in
        let there : get_or (ns ++ drop n slots) i 0 ≡ get_or (drop n slots) (i - n) 0
        = rw e at (append-behind ns (drop n slots) (i - n)) in
        let back : n + (i - n) ≡ i = omega arith in
        let here : get_or (drop n slots) (i - n) 0 ≡ get_or slots i 0 = rw back at (get_or-drop n slots (i - n) 0) in
        behind i h ∙ sym (there ∙ here)

-- a part that is put back leaves those behind it
pub behind-part : (a e : ℕ) (xs ys : List ℕ) → a ≤ e → e ≤ length xs → length ys ≡ length (mid_of a (e - a) xs)
    → (i : ℕ) → e ≤ i → get_or (put_mid a (e - a) xs ys) i 0 ≡ get_or xs i 0
behind-part a e xs ys h g l i k =
    let same : i ≡ e + (i - e) = omega arith in
    let there : get_or (put_mid a (e - a) xs ys) (e + (i - e)) 0 ≡ get_or xs (e + (i - e)) 0
    = sym (get_or-drop e (put_mid a (e - a) xs ys) (i - e) 0)
    ∙ (ap (λ (z : List ℕ). get_or z (i - e) 0) (drop_put a e xs ys h g (l ∙ mid_len a e xs g))
    ∙ get_or-drop e xs (i - e) 0) in
    rw (← same) at there
