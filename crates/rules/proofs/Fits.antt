-- What fits: a value its type, a cell its global, a state its scope. Places that are declared are held, and can be written.
use mathlib.Core.Path.{◌≡◌, refl, sym, ap, ap₂, subst, ◌∙◌}
use mathlib.Core.Bool.{Bool, true, false, false≢true}
use mathlib.Core.Option.{Option, none, some}
use Prim.Native.Nat.{ℕ, zero, suc, ◌+◌, ◌-◌, ◌*◌, ◌/◌, ◌^◌, ◌<◌, ◌≤◌}
use native.Mathlib.Omega.{arith}
use mathlib.Core.List.{List, [], ◌∷◌, ◌++◌}
use lib.Dec.{eqb}
use lib.Bits.{bit_and, bit_or, bit_xor, and_lt, or_lt, xor_lt}
use lib.ListN.{get_elem?, length, length-append, take, drop}
use lib.Pow.{pow_pos, pow_mono}
use native.Mathlib.Nat.{mod-lt, lt_of_lt_of_le, add-zero, zero-add}
use borrow.Author.Tests.{eqb-true, ltb-true, lt-ltb, eq-eqb}
use Rattle.rules.specs.Words.{fits_width, sum, difference, product, complement_of, shifted_left, shifted_right, cast_to, slice_fits, slice_width, slice_of, join_fits, joined}
use Rattle.rules.specs.Syntax.{Ty, bool, bits, Value, value, Global, Parameter, Program, Arithmetic, plus, minus, times, and, or, xor, Order, Shift, shift_left, shift_right, Equality, Place, local, parameter, global, field}
use Rattle.rules.specs.Form.{Res, and_look, only_if, same_ty, fits, Shape, a_variable, a_header, shape_in, global_at, sees_globals, Scope, judge_variable, judge_field, judge_header, judge_global, judge_place, judge_header_at, whole_bytes, judge_extracted, need_ty, width_at}
use Rattle.rules.specs.Lists.{Cell, variable_cell, header_cell, mark_of, slots_of_cell, slots_of}
use Rattle.rules.specs.Running.{State, change, number_of, truth, variable_ty, field_ty, header_only, shape_for, declared, variable_in, field_in, held, set_variable, set_field, zeroed, make_valid, make_invalid, with_store, with_parameters, with_locals, with_packet, bits_below, bits_of_bytes, number_of_bits, fields_from, fill_header, whole_header, change_store, put}
use Rattle.rules.specs.Running.{calculate, compare, shift_by, agree, arithmetic_on, order_on, shift_on, equality_on, not_on, complement_on, cast_on, slice_on, concatenation_on, a_bool}
use Rattle.rules.proofs.Fitting.{sum_fits, difference-fits, product-fits, complement-fits, left-fits, right-fits, cast_fits, slice-fits, joined-fits}
use Rattle.rules.proofs.Predicates.{All2, nil, cons, All, none_left, also, IfOk, is_ok, is_fault, IfSome, if_none, if_some, SomeOf, is_some, ok-then, ok-map, ok-found, ok-need, some_then, if-then, if-only, if-map, if-self, from_some, look-fits, change-fits}

-- a number fits a type, a value has one
abbrev pub Fit : Ty → ℕ → Type 0
Fit t n = fits t n ≡ true

pub data HasTy : Ty → Value → Type 0 where
  has : {t : Ty} {n : ℕ} → Fit t n → HasTy t (value t n)

abbrev pub FitParameter : Parameter → ℕ → Type 0
FitParameter p n = Fit p.ty n

abbrev pub FitWidth : ℕ → ℕ → Type 0
FitWidth width n = fits_width width n ≡ true

-- an invalid header has only zeros
pub data CellFits : Shape → Cell → Type 0 where
  variable_fits : {t : Ty} {n : ℕ} → Fit t n → CellFits (a_variable t) (variable_cell n)
  valid_fits : {widths ns : List ℕ} → All2 FitWidth widths ns → CellFits (a_header widths) (header_cell true ns)
  invalid_fits : {widths ns : List ℕ} → All2 (λ _ n. n ≡ 0) widths ns → CellFits (a_header widths) (header_cell false ns)

pub data GlobalFits (P : Program) (g : Global) (c : Cell) : Type 0 where
  global_fits : {shape : Shape} → shape_in P g.ty ≡ some shape → CellFits shape c → GlobalFits P g c

abbrev pub StoreFits : Program → List Cell → Type 0
StoreFits P cells = All2 (GlobalFits P) P.globals cells

pub record StateFits (Γ : Scope) (s : State) : Type 0 where
  pub store-fits : StoreFits Γ.program s.store
  pub parameters-fit : All2 FitParameter Γ.parameters s.parameters
  pub locals-fit : All2 Fit Γ.locals s.locals

-- types
pub same_ty-true : (t u : Ty) → same_ty t u ≡ true → t ≡ u
unfolding same_ty
same_ty-true bool bool e = refl
same_ty-true bool (bits w) e = absurd (false≢true e)
same_ty-true (bits w) bool e = absurd (false≢true e)
same_ty-true (bits w) (bits v) e = ap bits (eqb-true w v e)

pub same_ty-refl : (t : Ty) → same_ty t t ≡ true
unfolding same_ty
same_ty-refl bool = refl
same_ty-refl (bits w) = eq-eqb w w refl

pub ok-type : (at : ℕ) (t u : Ty) → IfOk (λ _. t ≡ u) (need_ty at t u)
unfolding need_ty
ok-type at t u = ok-map (ok-need 7 at (same_ty t u)) λ _ e. same_ty-true t u e

pub ok-bits : (at : ℕ) (t : Ty) → IfOk (λ w. t ≡ bits w) (width_at at t)
unfolding width_at
ok-bits at bool = is_fault
ok-bits at (bits w) = is_ok refl

zero-fits-width : (w : ℕ) → FitWidth w 0
unfolding fits_width
zero-fits-width w = lt-ltb 0 (2 ^ w) (pow_pos w)

pub zero-fits : (t : Ty) → Fit t 0
unfolding fits
zero-fits bool = refl
zero-fits (bits w) = zero-fits-width w

pub number-of : {t : Ty} {v : Value} → HasTy t v → SomeOf (Fit t) (number_of t v)
unfolding number_of only_if
number-of {t} (has h) = rw (same_ty-refl t) (is_some h)

pub mark-fits : (b : Bool) → Fit bool (mark_of b)
unfolding fits mark_of
mark-fits true = refl
mark-fits false = refl

-- fields: read, changed, zeroed
zeros-fit : {widths ns : List ℕ} → All2 (λ _ n. n ≡ 0) widths ns → All2 FitWidth widths ns
zeros-fit nil = nil
zeros-fit (cons {a = w} {b = n} e es) = cons {a = w} {b = n} (rw e (zero-fits-width w)) (zeros-fit es)

zeroed-zeros : {R : ℕ → ℕ → Type 0} {widths ns : List ℕ} → All2 R widths ns → All2 (λ _ n. n ≡ 0) widths (zeroed ns)
unfolding zeroed
zeroed-zeros nil = nil
zeroed-zeros (cons h hs) = cons refl (zeroed-zeros hs)

fields_fit : {widths : List ℕ} {c : Cell} (f : ℕ) → CellFits (a_header widths) c → IfSome (λ w.
    SomeOf (FitWidth w) (field_in f c)) (get_elem? widths f)
unfolding field_in
fields_fit f (valid_fits h) = look-fits h f
fields_fit f (invalid_fits h) = look-fits (zeros-fit h) f

set-field : {widths : List ℕ} {c : Cell} (f : ℕ) → CellFits (a_header widths) c
    → IfSome (λ w. (n : ℕ) → FitWidth w n → SomeOf (CellFits (a_header widths)) (set_field f n c)) (get_elem? widths f)
unfolding set_field
set-field f (valid_fits h) = if-map (change-fits h f) λ w g n hn. some_then (g (λ _. some n) λ _ _. is_some hn) λ ms hms.
    is_some (valid_fits hms)
set-field {widths} f (invalid_fits h) = if-map (if-self (get_elem? widths f)) λ w _ n hn. is_some (invalid_fits h)

pub make-valid : {widths : List ℕ} {c : Cell} → CellFits (a_header widths) c
    → SomeOf (CellFits (a_header widths)) (make_valid c)
unfolding make_valid
make-valid (valid_fits h) = is_some (valid_fits h)
make-valid (invalid_fits h) = is_some (valid_fits (zeros-fit (zeroed-zeros h)))

pub make-invalid : {widths : List ℕ} {c : Cell} → CellFits (a_header widths) c
    → SomeOf (CellFits (a_header widths)) (make_invalid c)
unfolding make_invalid
make-invalid (valid_fits h) = is_some (invalid_fits (zeroed-zeros h))
make-invalid (invalid_fits h) = is_some (invalid_fits (zeroed-zeros h))

-- fields that are filled from bits
abbrev Bit : ℕ → Type 0
Bit b = b < 2

bits-below : (i n : ℕ) → All Bit (bits_below i n)
unfolding bits_below
bits-below zero n = none_left
bits-below (suc i) n = also (mod-lt (n / 2 ^ i) (omega arith)) (bits-below i n)

all_append : {A : Type 0} {Q : A → Type 0} {xs ys : List A} → All Q xs → All Q ys → All Q (xs ++ ys)
all_append none_left k = k
all_append (also p h) k = also p (all_append h k)

bits-of-bytes : (ns : List ℕ) → All Bit (bits_of_bytes ns)
unfolding bits_of_bytes
bits-of-bytes [] = none_left
bits-of-bytes (n ∷ ns) = all_append (bits-below 8 n) (bits-of-bytes ns)

all_drop : {A : Type 0} {Q : A → Type 0} (i : ℕ) {xs : List A} → All Q xs → All Q (drop i xs)
all_drop zero h = h
all_drop (suc i) none_left = none_left
all_drop (suc i) (also p h) = all_drop i h

-- so many bits behind a number of a width make one that is so much wider
bits_fit : (w width front : ℕ) {bs : List ℕ} → All Bit bs → front < 2 ^ width
    → number_of_bits front (take w bs) < 2 ^ (width + w)
unfolding number_of_bits
bits_fit zero width front h f = rw (add-zero width) f
bits_fit (suc w) width front none_left f = lt_of_lt_of_le f (pow_mono (let up : width ≤ width + suc w = omega arith in up))
bits_fit (suc w) width front (also {a = b} {xs = bs} p h) f =
    let same : width + 1 + w ≡ width + suc w = omega arith in
    subst (λ k. number_of_bits (front * 2 + b) (take w bs) < 2 ^ k) same
    (bits_fit w (width + 1) (front * 2 + b) h (unfold joined in joined-fits width 1 front b f p))

fields-from : (widths : List ℕ) {bs : List ℕ} → All Bit bs → All2 FitWidth widths (fields_from widths bs)
unfolding fields_from fits_width
fields-from [] h = nil
fields-from (w ∷ widths) {bs} h =
    cons (lt-ltb _ (2 ^ w) (rw (zero-add w) at (bits_fit w 0 0 h (omega arith)))) (fields-from widths (all_drop w h))

-- a header that is filled is valid, and its fields fit
pub filled-fits : (widths packet : List ℕ) → All2 FitWidth widths (fields_from widths (bits_of_bytes packet))
filled-fits widths packet = fields-from widths (bits-of-bytes packet)

pub filled-valid : {widths : List ℕ} {c : Cell} (ns : List ℕ) → CellFits (a_header widths) c
    → fill_header ns c ≡ some (header_cell true ns)
unfolding fill_header
filled-valid ns (valid_fits h) = refl
filled-valid ns (invalid_fits h) = refl

pub fill-header : {widths : List ℕ} {c : Cell} (packet : List ℕ) → CellFits (a_header widths) c
    → SomeOf (CellFits (a_header widths)) (fill_header (fields_from widths (bits_of_bytes packet)) c)
unfolding fill_header
fill-header {widths} packet (valid_fits h) = is_some (valid_fits (filled-fits widths packet))
fill-header {widths} packet (invalid_fits h) = is_some (valid_fits (filled-fits widths packet))

-- globals: looked up with their shape
look-global : {P : Program} {g : Global} {o : Option Cell} → SomeOf (GlobalFits P g) o → IfSome (λ shape.
    SomeOf (CellFits shape) o) (shape_in P g.ty)
look-global (is_some (global_fits e h)) = rw e (if_some (is_some h))

pub store-look : {P : Program} {cells : List Cell} → StoreFits P cells → (i : ℕ) → IfSome (λ shape.
    SomeOf (CellFits shape) (get_elem? cells i)) (global_at P i)
unfolding global_at
store-look h i = if-then (look-fits h i) λ g k. look-global k

keep-global : {P : Program} {g : Global} (f : Cell → Option Cell) {shape : Shape} → shape_in P g.ty ≡ some shape
    → ((c : Cell) → CellFits shape c → SomeOf (CellFits shape) (f c)) → (c : Cell) → GlobalFits P g c
    → SomeOf (GlobalFits P g) (f c)
keep-global {P} {g} f {shape} e h c (global_fits {shape = other} q k) = go (h c (subst (λ s. CellFits s c) (same e q) k))
  where
    same : shape_in P g.ty ≡ some shape → shape_in P g.ty ≡ some other → other ≡ shape
    same e q = cc

    go : {o : Option Cell} → SomeOf (CellFits shape) o → SomeOf (GlobalFits P g) o
    go (is_some p) = is_some (global_fits e p)

pub store-change : {P : Program} {cells : List Cell} → StoreFits P cells → (i : ℕ)
    → IfSome (λ shape. (f : Cell → Option Cell) → ((c : Cell) → CellFits shape c → SomeOf (CellFits shape) (f c))
    → SomeOf (StoreFits P) (change f cells i)) (global_at P i)
unfolding global_at
store-change {P} h i = if-then (change-fits h i) λ g k. if-map (if-self (shape_in P g.ty)) λ shape e f hf.
    k f (keep-global f e hf)

some-all : {A B : Type 0} {C : B → Type 0} {Q : B → A → Type 0} (o : Option A) → ((b : B) → C b → IfSome (Q b) o)
    → IfSome (λ a. (b : B) → C b → Q b a) o
some-all none h = if_none
some-all (some a) h = if_some λ b c. from_some (h b c)

-- places
module _ (Γ : Scope) where
  pub with-store : {s : State} {cells : List Cell} → StateFits Γ s → StoreFits Γ.program cells
      → StateFits Γ (with_store s cells)
  unfolding with_store
  with-store f h = record { store-fits = h; parameters-fit = f.parameters-fit; locals-fit = f.locals-fit }

  with-parameters : {s : State} {ns : List ℕ} → StateFits Γ s → All2 FitParameter Γ.parameters ns
      → StateFits Γ (with_parameters s ns)
  unfolding with_parameters
  with-parameters f h = record { store-fits = f.store-fits; parameters-fit = h; locals-fit = f.locals-fit }

  with-locals : {s : State} {ns : List ℕ} → StateFits Γ s → All2 Fit Γ.locals ns → StateFits Γ (with_locals s ns)
  unfolding with_locals
  with-locals f h = record { store-fits = f.store-fits; parameters-fit = f.parameters-fit; locals-fit = h }

  pub with-packet : {s : State} (ns : List ℕ) → StateFits Γ s → StateFits Γ (with_packet s ns)
  unfolding with_packet
  with-packet ns f =
      record { store-fits = f.store-fits; parameters-fit = f.parameters-fit; locals-fit = f.locals-fit }

  variable-held : (shape : Shape) {o : Option Cell} → SomeOf (CellFits shape) o → IfSome (λ t.
      SomeOf (Fit t) (and_look o variable_in)) (variable_ty shape)
  unfolding variable_ty variable_in and_look
  variable-held (a_variable t) (is_some (variable_fits h)) = if_some (is_some h)
  variable-held (a_header widths) h = if_none

  field-held : (f : ℕ) (shape : Shape) {o : Option Cell} → SomeOf (CellFits shape) o → IfSome (λ t.
      SomeOf (Fit t) (and_look o (field_in f))) (field_ty f shape)
  unfolding field_ty and_look fits
  field-held f (a_variable t) h = if_none
  field-held f (a_header widths) (is_some h) = if-then (fields_fit f h) λ w k. if_some k

  pub held_at : (p : Place) (s : State) → StateFits Γ s → IfSome (λ t. SomeOf (Fit t) (held p s)) (declared Γ p)
  unfolding held declared shape_for
  held_at (local i) s f = look-fits f.locals-fit i
  held_at (parameter i) s f = if-then (look-fits f.parameters-fit i) λ p h. if_some h
  held_at (global g) s f = if-then (if-only (sees_globals Γ.body) (store-look f.store-fits g)) λ shape h.
      variable-held shape h
  held_at (field g i) s f = if-then (if-only (sees_globals Γ.body) (store-look f.store-fits g)) λ shape h.
      field-held i shape h

  set-variable : (shape : Shape) → IfSome (λ t. (n : ℕ) → Fit t n → (c : Cell) → CellFits shape c
      → SomeOf (CellFits shape) (set_variable n c)) (variable_ty shape)
  unfolding variable_ty set_variable
  set-variable (a_variable t) = if_some λ n hn c hc. go n hn c hc
    where
      go : (n : ℕ) → Fit t n → (c : Cell) → CellFits (a_variable t) c → SomeOf (CellFits (a_variable t)) (set_variable n c)
      go n hn _ (variable_fits h) = is_some (variable_fits hn)
  set-variable (a_header widths) = if_none

  put-field : (f : ℕ) (shape : Shape) → IfSome (λ t. (n : ℕ) → Fit t n → (c : Cell) → CellFits shape c
      → SomeOf (CellFits shape) (set_field f n c)) (field_ty f shape)
  unfolding field_ty fits
  put-field f (a_variable t) = if_none
  put-field f (a_header widths) = if-then (some-all (get_elem? widths f) λ c hc. set-field {c = c} f hc) λ w h.
      if_some λ n hn c hc. h c hc n hn

  pub put-at : (p : Place) (s : State) → StateFits Γ s → IfSome (λ t. (n : ℕ) → Fit t n
      → SomeOf (StateFits Γ) (put p n s)) (declared Γ p)
  unfolding put declared shape_for change_store
  put-at (local i) s f = if-map (change-fits f.locals-fit i) λ t g n hn. some_then (g (λ _. some n) λ _ _.
      is_some hn) λ ns h. is_some (with-locals f h)
  put-at (parameter i) s f = if-then (change-fits f.parameters-fit i) λ p g. if_some λ n hn. some_then (g (λ _.
      some n) λ _ _. is_some hn) λ ns h. is_some (with-parameters f h)
  put-at (global g) s f = if-then (if-only (sees_globals Γ.body) (store-change f.store-fits g)) λ shape k.
      if-map (set-variable shape) λ t h n hn.
      some_then (k (set_variable n) (h n hn)) λ cells hc. is_some (with-store f hc)
  put-at (field g i) s f = if-then (if-only (sees_globals Γ.body) (store-change f.store-fits g)) λ shape k.
      if-map (put-field i shape) λ t h n hn.
      some_then (k (set_field i n) (h n hn)) λ cells hc. is_some (with-store f hc)

  -- what the judge says of a place is its declared type
  variable-ok : (at : ℕ) (shape : Shape) → IfOk (λ t. variable_ty shape ≡ some t) (judge_variable at shape)
  unfolding judge_variable variable_ty
  variable-ok at (a_variable t) = is_ok refl
  variable-ok at (a_header widths) = is_fault

  field-ok : (at f : ℕ) (shape : Shape) → IfOk (λ t. field_ty f shape ≡ some t) (judge_field at f shape)
  unfolding judge_field field_ty and_look
  field-ok at f (a_variable t) = is_fault
  field-ok at f (a_header widths) = ok-then (ok-found (suc (suc at)) (get_elem? widths f)) λ w e. is_ok (rw e)

  -- a global that is judged is seen, and what is asked of its shape holds
  global-ok : {A : Type 0} {R : Shape → A → Type 0} (at g : ℕ) {asked : Shape → Res A}
      → ((shape : Shape) → IfOk (R shape) (asked shape))
      → IfOk (λ a. SomeOf (λ shape. R shape a × (global_at Γ.program g ≡ some shape)) (shape_for Γ g)) (judge_global Γ at g asked)
  unfolding judge_global shape_for only_if
  global-ok at g h = ok-then (ok-found (suc at) (global_at Γ.program g)) λ shape e. ok-then (h shape) λ a r.
      ok-then (ok-need 8 at (sees_globals Γ.body)) λ _ b. is_ok (rw (b, e) (is_some (r, refl)))

  look_is : {A B : Type 0} {b : B} {o : Option A} {k : A → Option B} → SomeOf (λ a. k a ≡ some b) o → and_look o k ≡ some b
  unfolding and_look
  look_is (is_some e) = e

  some-map : {A : Type 0} {P Q : A → Type 0} {o : Option A} → SomeOf P o → ((a : A) → P a → Q a) → SomeOf Q o
  some-map (is_some p) h = is_some (h _ p)

  pub declared-ok : (at : ℕ) (p : Place) → IfOk (λ t. declared Γ p ≡ some t) (judge_place Γ at p)
  unfolding judge_place declared and_look
  declared-ok at (local i) = ok-found (suc at) (get_elem? Γ.locals i)
  declared-ok at (parameter i) = ok-then (ok-found (suc at) (get_elem? Γ.parameters i)) λ p e. is_ok (rw e)
  declared-ok at (global g) = ok-map (global-ok at g (variable-ok at)) λ t h. look_is (some-map h λ shape r. r.0)
  declared-ok at (field g f) = ok-map (global-ok at g (field-ok at f)) λ t h. look_is (some-map h λ shape r. r.0)

  header_ok : (at : ℕ) (shape : Shape)
      → IfOk (λ _. SomeOf (λ widths. some shape ≡ some (a_header widths)) (header_only shape)) (judge_header at shape)
  unfolding judge_header header_only
  header_ok at (a_variable t) = is_fault
  header_ok at (a_header widths) = is_ok (is_some refl)

  pub header_at : (at g : ℕ)
      → IfOk (λ _. SomeOf (λ widths. global_at Γ.program g ≡ some (a_header widths)) (and_look (shape_for Γ g) header_only))
      (judge_header_at Γ at g)
  unfolding judge_header_at
  header_at at g = ok-map (global-ok at g (header_ok at)) λ _ h. some_then h λ shape r. rw r.1 r.0

  whole-ok : (at : ℕ) (shape : Shape)
      → IfOk (λ _. SomeOf (λ widths. some shape ≡ some (a_header widths)) (whole_header shape)) (judge_extracted at shape)
  unfolding judge_extracted whole_header only_if
  whole-ok at (a_variable t) = is_fault
  whole-ok at (a_header widths) = ok-map (ok-need 7 at (whole_bytes widths)) λ _ e. rw e (is_some refl)

  pub whole-at : (at g : ℕ)
      → IfOk (λ _. SomeOf (λ widths. global_at Γ.program g ≡ some (a_header widths)) (and_look (shape_for Γ g) whole_header))
      (judge_global Γ at g (judge_extracted at))
  whole-at at g = ok-map (global-ok at g (whole-ok at)) λ _ h. some_then h λ shape r. rw r.1 r.0

-- operators
lt-fits : (w n : ℕ) → n < 2 ^ w → Fit (bits w) n
unfolding fits fits_width
lt-fits w n h = lt-ltb n (2 ^ w) h

fits_lt : (w n : ℕ) → Fit (bits w) n → n < 2 ^ w
unfolding fits fits_width
fits_lt w n h = ltb-true n (2 ^ w) h

calculate-fits : (o : Arithmetic) (w n m : ℕ) → Fit (bits w) n → Fit (bits w) m → Fit (bits w) (calculate o w n m)
unfolding calculate
calculate-fits plus w n m h k = lt-fits w (sum w n m) (sum_fits w n m)
calculate-fits minus w n m h k = lt-fits w (difference w n m) (difference-fits w n m)
calculate-fits times w n m h k = lt-fits w (product w n m) (product-fits w n m)
calculate-fits and w n m h k = lt-fits w (bit_and n m) (and_lt w n m (fits_lt w n h) (fits_lt w m k))
calculate-fits or w n m h k = lt-fits w (bit_or n m) (or_lt w n m (fits_lt w n h) (fits_lt w m k))
calculate-fits xor w n m h k = lt-fits w (bit_xor n m) (xor_lt w n m (fits_lt w n h) (fits_lt w m k))

shift_fits : (o : Shift) (w n m : ℕ) → Fit (bits w) n → Fit (bits w) (shift_by o w n m)
unfolding shift_by
shift_fits shift_left w n m h = lt-fits w (shifted_left w n m) (left-fits w n m)
shift_fits shift_right w n m h = lt-fits w (shifted_right w n m) (right-fits w n m (fits_lt w n h))

pub truth-has : (b : Bool) → HasTy bool (truth b)
unfolding truth
truth-has b = has (mark-fits b)

pub arithmetic-ok : (o : Arithmetic) {w : ℕ} {v u : Value} → HasTy (bits w) v → HasTy (bits w) u
    → SomeOf (HasTy (bits w)) (arithmetic_on o v u)
unfolding arithmetic_on only_if
arithmetic-ok o {w} (has {n} h) (has {n = m} k) = rw (eq-eqb w w refl) (is_some (has (calculate-fits o w n m h k)))

pub order-ok : (o : Order) {w : ℕ} {v u : Value} → HasTy (bits w) v → HasTy (bits w) u
    → SomeOf (HasTy bool) (order_on o v u)
unfolding order_on only_if
order-ok o {w} (has {n} h) (has {n = m} k) = rw (eq-eqb w w refl) (is_some (truth-has (compare o n m)))

pub shift-ok : (o : Shift) {w z : ℕ} {v u : Value} → HasTy (bits w) v → HasTy (bits z) u
    → SomeOf (HasTy (bits w)) (shift_on o v u)
unfolding shift_on
shift-ok o {w} (has {n} h) (has {n = m} k) = is_some (has (shift_fits o w n m h))

pub equality-ok : (o : Equality) {t : Ty} {v u : Value} → HasTy t v → HasTy t u → SomeOf (HasTy bool) (equality_on o v u)
unfolding equality_on only_if
equality-ok o {t} (has {n} h) (has {n = m} k) = rw (same_ty-refl t) (is_some (truth-has (agree o (eqb n m))))

pub not-ok : {v : Value} → HasTy bool v → SomeOf (HasTy bool) (not_on v)
unfolding not_on fits
not-ok (has {n} h) = is_some (has (lt-ltb (1 - n) 2 (omega arith)))

pub complement-ok : {w : ℕ} {v : Value} → HasTy (bits w) v → SomeOf (HasTy (bits w)) (complement_on v)
unfolding complement_on
complement-ok {w} (has {n} h) = is_some (has (lt-fits w (complement_of w n) (complement-fits w n)))

pub cast_ok : (w : ℕ) {z : ℕ} {v : Value} → HasTy (bits z) v → SomeOf (HasTy (bits w)) (cast_on w v)
unfolding cast_on
cast_ok w (has {n} h) = is_some (has (lt-fits w (cast_to w n) (cast_fits w n)))

pub slice-ok : (high low w : ℕ) {v : Value} → slice_fits high low w ≡ true → HasTy (bits w) v
    → SomeOf (HasTy (bits (slice_width high low))) (slice_on high low v)
unfolding slice_on only_if
slice-ok high low w e (has {n} h) = rw e (is_some (has (lt-fits (slice_width high low) (slice_of high low n)
    (slice-fits high low n))))

pub concatenation-ok : {w z : ℕ} {v u : Value} → join_fits w z ≡ true → HasTy (bits w) v → HasTy (bits z) u
    → SomeOf (HasTy (bits (w + z))) (concatenation_on v u)
unfolding concatenation_on only_if
concatenation-ok {w} {z} e (has {n} h) (has {n = m} k) = rw e (is_some (has (lt-fits (w + z) (joined z n m)
    (joined-fits w z n m (fits_lt w n h) (fits_lt z m k)))))

pub bool_ok : {v : Value} → HasTy bool v → SomeOf (HasTy bool) (a_bool v)
unfolding a_bool
bool_ok (has h) = is_some (has h)

-- lists that fit one another are as long
pub all2-length : {A B : Type 0} {R : A → B → Type 0} {xs : List A} {ys : List B} → All2 R xs ys → length ys ≡ length xs
all2-length nil = refl
all2-length (cons r rs) = ap suc (all2-length rs)

-- how many numbers a global of a shape has in the store
unfoldable pub numbers_in : Shape → ℕ
numbers_in (a_variable t) = 1
numbers_in (a_header widths) = suc (length widths)

pub cell-length : {shape : Shape} {c : Cell} → CellFits shape c → length (slots_of_cell c) ≡ numbers_in shape
unfolding slots_of_cell numbers_in
cell-length (variable_fits h) = refl
cell-length (valid_fits h) = ap suc (all2-length h)
cell-length (invalid_fits h) = ap suc (all2-length h)

global-length : {P : Program} {g : Global} {c d : Cell} → GlobalFits P g c → GlobalFits P g d
    → length (slots_of_cell c) ≡ length (slots_of_cell d)
global-length (global_fits {shape = x} e h) (global_fits {shape = y} q k) = cell-length h ∙ (ap numbers_in
    (same e q) ∙ sym (cell-length k))
  where
    same : {o : Option Shape} → o ≡ some x → o ≡ some y → x ≡ y
    same e q = cc

-- stores that fit one program have as many numbers
cells-length : {P : Program} {gs : List Global} {cs ds : List Cell} → All2 (GlobalFits P) gs cs
    → All2 (GlobalFits P) gs ds → length (slots_of cs) ≡ length (slots_of ds)
unfolding slots_of
cells-length nil nil = refl
cells-length (cons {b = c} {ys = cs} h hs) (cons {b = d} {ys = ds} k ks) =
    length-append (slots_of_cell c) (slots_of cs) ∙ (ap₂ (λ n m.
    n + m) (global-length h k) (cells-length hs ks) ∙ sym (length-append (slots_of_cell d) (slots_of ds)))

pub store_length : (P : Program) (cs ds : List Cell) → StoreFits P cs → StoreFits P ds
    → length (slots_of cs) ≡ length (slots_of ds)
store_length P cs ds h k = cells-length h k
