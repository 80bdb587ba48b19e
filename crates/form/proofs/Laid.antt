-- What the slots hold where a program is fine: the width of each key of each table.
use mathlib.Core.Option.{some}
use mathlib.Core.Path.{◌≡◌, refl, sym, ap, ◌∙◌}
use mathlib.Core.List.{List, [], ◌∷◌}
use Prim.Native.Nat.{ℕ, zero, suc, ◌+◌, ◌*◌, ◌≤◌, ◌<◌}
use native.Mathlib.Omega.{arith}
use lib.ListN.{length, get_or, get_elem?, set}
use lib.Seq.{sets, length-sets, get_or-set_same, get_or-set_other}
use Rattle.std.specs.Prelude.{Ok}
use Rattle.rules.specs.Words.{widest}
use Rattle.rules.specs.Syntax.{Key, Table, Program}
use Rattle.rules.specs.Reading.{most_keys, most_tables}
use Rattle.rules.specs.Form.{ok, apply_scope, judge_expr, judge_program}
use Rattle.rules.specs.Lists.{key_width}
use Rattle.program.specs.Stands.{StandsKeys, StandsProgram}
use Rattle.program.proofs.Found.{member-in}
use Rattle.program.specs.Keys.{WidthsOf}
use Rattle.form.specs.Claims.{told_form, key_widths, lay_tables, widths_left, JudgesForm}
use Rattle.program.proofs.Seen.{apply_slots, apply-scope}
use Rattle.form.proofs.Widths.{expr-most, width-of-most}

-- a run of stores: below it all is as found, and in it the values stand
below : (slots : List ℕ) (i : ℕ) (vs : List ℕ) (n : ℕ) → n < i → get_or (sets slots i vs) n 0 ≡ get_or slots n 0
below slots i [] n l = refl
below slots i (v ∷ vs) n l = below (set slots i v) (suc i) vs n (omega arith)
    ∙ get_or-set_other slots i n v 0 (λ e. absurd (omega (arith, e)))

within : (slots : List ℕ) (i : ℕ) (vs : List ℕ) (j : ℕ) → j < length vs → i + length vs ≤ length slots
    → get_or (sets slots i vs) (i + j) 0 ≡ get_or vs j 0
within slots i [] j l h = absurd (omega arith)
within slots i (v ∷ vs) zero l h =
    let e : i + 0 ≡ i = omega arith in
    rw e (below (set slots i v) (suc i) vs i (omega arith) ∙ get_or-set_same slots i v 0 (omega arith))
within slots i (v ∷ vs) (suc j) l h =
    let e : i + suc j ≡ suc i + j = omega arith in
    rw e (within (set slots i v) (suc i) vs j (omega arith) (omega (arith, length-sets slots i (v ∷ []))))

-- the widths of keys
widths-length : (P : Program) (ks : List Key) → length (key_widths P ks) ≡ length ks
unfolding key_widths
widths-length P [] = refl
widths-length P (k ∷ ks) = ap suc (widths-length P ks)

width-in : (P : Program) (ks : List Key) (j : ℕ) (k : Key) → get_elem? ks j ≡ some k
    → get_or (key_widths P ks) j 0 ≡ key_width P k
unfolding key_widths
width-in P [] j k e = let z : ◌≡◌ {A = ℕ} 0 1 = cc in absurd (omega arith)
width-in P (x ∷ ks) zero k e =
    let same : x ≡ k = cc in
    rw same
width-in P (x ∷ ks) (suc j) k e = width-in P ks j k e

-- tables lay their slots and leave those of the tables before them
module _ (P : Program) where
  tables-below : (t : ℕ) (Ts : List Table) (slots : List ℕ) (n : ℕ) → n < most_keys * t
      → get_or (lay_tables P t Ts slots) n 0 ≡ get_or slots n 0
  unfolding lay_tables
  tables-below t [] slots n l = refl
  tables-below t (T ∷ Ts) slots n l =
      tables-below (suc t) Ts (sets slots (most_keys * t) (key_widths P T.keys)) n (omega arith)
      ∙ below slots (most_keys * t) (key_widths P T.keys) n l

  tables-laid : (t : ℕ) (Ts : List Table) (slots : List ℕ) → most_keys * (t + length Ts) ≤ length slots
      → ((i : ℕ) (T : Table) → get_elem? Ts i ≡ some T → length T.keys ≤ most_keys)
      → (i j : ℕ) (T : Table) (k : Key) → get_elem? Ts i ≡ some T → get_elem? T.keys j ≡ some k
      → get_or (lay_tables P t Ts slots) (most_keys * (t + i) + j) 0 ≡ key_width P k
  unfolding lay_tables
  tables-laid t [] slots room few i j T k e q = let z : ◌≡◌ {A = ℕ} 0 1 = cc in absurd (omega arith)
  tables-laid t (x ∷ Ts) slots room few zero j T k e q =
      let same : x ≡ T = cc in
      let here : get_elem? x.keys j ≡ some k = rw same q in
      let most : length x.keys ≤ most_keys = few 0 x refl in
      let inside : j < length x.keys = member-in x.keys j k here in
      let at : most_keys * (t + 0) + j ≡ most_keys * t + j = omega arith in
      rw at
      (tables-below (suc t) Ts (sets slots (most_keys * t) (key_widths P x.keys)) (most_keys * t + j) (omega arith)
      ∙ within slots (most_keys * t) (key_widths P x.keys) j (omega (arith, widths-length P x.keys))
      (omega (arith, widths-length P x.keys))
      ∙ width-in P x.keys j k here)
  tables-laid t (x ∷ Ts) slots room few (suc i) j T k e q =
      let at : most_keys * (t + suc i) + j ≡ most_keys * (suc t + i) + j = omega arith in
      rw at (tables-laid (suc t) Ts (sets slots (most_keys * t) (key_widths P x.keys))
      (omega (arith, length-sets slots (most_keys * t) (key_widths P x.keys))) (λ n y. few (suc n) y) i j T k e q)

-- a key that stands is no wider than the widest
module _ (nums directory ends : List ℕ) (P : Program) (end : ℕ) (s : StandsProgram nums directory ends P end) where
  key-most : (at : ℕ) (ks : List Key) → StandsKeys nums ends at ks → (j : ℕ) (k : Key) → get_elem? ks j ≡ some k
      → key_width P k ≤ widest
  unfolding StandsKeys key_width
  key-most at [] h j k e = let z : ◌≡◌ {A = ℕ} 0 1 = cc in absurd (omega arith)
  key-most at (x ∷ ks) h zero k e =
      let same : x ≡ k = cc in
      rw (← same) (width-of-most (judge_expr (apply_scope P) x.expr)
      (expr-most nums directory ends (apply_slots directory) (apply_scope P) (apply-scope nums directory ends P end s)
      h.1.1.0))
  key-most at (x ∷ ks) h (suc j) k e = key-most (get_or ends (at + 1) 0) ks h.1.1.1 j k e

  -- the slots of a program that is fine
  pub keys-laid : (widths : List ℕ) → length widths ≡ most_keys * most_tables → judge_program P ≡ ok tt
      → WidthsOf P (widths_left (judge_program P) P widths)
  unfolding widths_left
  keys-laid widths room fine =
      rw fine (record { is = is; most = λ t j T k e q. rw (is t j T k e q) (most t j T k e q) })
    where
      is : (t j : ℕ) (T : Table) (k : Key) → get_elem? P.tables t ≡ some T → get_elem? T.keys j ≡ some k
          → get_or (lay_tables P 0 P.tables widths) (most_keys * t + j) 0 ≡ key_width P k
      is t j T k e q =
          let at : most_keys * t + j ≡ most_keys * (0 + t) + j = omega arith in
          rw at (tables-laid P 0 P.tables widths (omega (arith, s.tables.few))
          (λ i x g. (s.tables.member i x g).key_count.at_most) t j T k e q)

      most : (t j : ℕ) (T : Table) (k : Key) → get_elem? P.tables t ≡ some T → get_elem? T.keys j ≡ some k
          → key_width P k ≤ widest
      most t j T k e q =
          key-most _ T.keys (s.tables.member t T e).keys j k q

-- whatever program stands there, the slots tell the widths of its keys
pub form-laid : (nums directory ends widths widths' : List ℕ) → JudgesForm nums directory ends widths widths' (Ok tt)
    → length widths ≡ most_keys * most_tables
    → (P : Program) (end : ℕ) → StandsProgram nums directory ends P end → WidthsOf P widths'
unfolding told_form
form-laid nums directory ends widths widths' j room P end s =
    rw (j.laid P end s) (keys-laid nums directory ends P end s widths room (sym (j.judged P end s)))
