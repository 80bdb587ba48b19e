-- What is declared of a global and of a field, by the global's shape; a header of whole bytes.
use mathlib.Core.Bool.{Bool, true, false}
use mathlib.Core.Option.{Option, some}
use mathlib.Core.Path.{◌≡◌, refl, ap, ◌∙◌}
use mathlib.Core.List.{List}
use Prim.Native.Nat.{ℕ, ◌%◌}
use native.Mathlib.Omega.{arith}
use lib.ListN.{get_elem?}
use borrow.Author.Tests.{eqb-true}
use Rattle.rules.specs.Syntax.{Ty, bits, Program, global, field}
use Rattle.rules.specs.Form.{and_look, only_if, Shape, a_variable, a_header, global_at, sees_globals, bits_in, whole_bytes, Scope}
use Rattle.rules.specs.Running.{variable_ty, field_ty, header_only, shape_for, declared, whole_header}
use Rattle.store.proofs.Flat.{Behind, behind, only}

-- a global that is seen has its shape, of whatever kind is asked for
pub seen-shape : {B : Type 0} (Γ : Scope) (g : ℕ) (k : Shape → Option B) (b : B) → and_look (shape_for Γ g) k ≡ some b
    → Behind (global_at Γ.program g) k b
unfolding shape_for
seen-shape Γ g k b e =
    let h = behind (only_if (sees_globals Γ.body) (global_at Γ.program g)) k b e in
    record {
      found = h.found;
      is = only (sees_globals Γ.body) (global_at Γ.program g) h.found h.is;
      leads = h.leads;
    }

variable-shape : (shape : Shape) (t : Ty) → variable_ty shape ≡ some t → shape ≡ a_variable t
unfolding variable_ty
variable-shape (a_variable u) t e = cc
variable-shape (a_header widths) t e = let z : ◌≡◌ {A = ℕ} 0 1 = cc in absurd (omega arith)

header-shape : (shape : Shape) (widths : List ℕ) → header_only shape ≡ some widths → shape ≡ a_header widths
unfolding header_only
header-shape (a_variable t) widths e = let z : ◌≡◌ {A = ℕ} 0 1 = cc in absurd (omega arith)
header-shape (a_header ws) widths e = cc

record FieldShape (shape : Shape) (f : ℕ) (t : Ty) : Type 0 where
  widths : List ℕ
  width : ℕ
  is : shape ≡ a_header widths
  found : get_elem? widths f ≡ some width
  typed : t ≡ bits width

field-shape : (shape : Shape) (f : ℕ) (t : Ty) → field_ty f shape ≡ some t → FieldShape shape f t
unfolding field_ty
field-shape (a_variable u) f t e = let z : ◌≡◌ {A = ℕ} 0 1 = cc in absurd (omega arith)
field-shape (a_header ws) f t e =
    let b = behind (get_elem? ws f) (λ width. some (bits width)) t e in
    record { widths = ws; width = b.found; is = refl; found = b.is; typed = cc b.leads }

-- what is declared of a global and of a field, by the global's shape
pub declared-variable : (Γ : Scope) (g : ℕ) (t : Ty) → declared Γ (global g) ≡ some t
    → global_at Γ.program g ≡ some (a_variable t)
unfolding declared
declared-variable Γ g t d =
    let b = seen-shape Γ g variable_ty t d in
    b.is ∙ ap some (variable-shape b.found t b.leads)

pub record DeclaredField (P : Program) (g f : ℕ) (t : Ty) : Type 0 where
  pub widths : List ℕ
  pub width : ℕ
  pub is : global_at P g ≡ some (a_header widths)
  pub found : get_elem? widths f ≡ some width
  pub typed : t ≡ bits width

pub declared-field : (Γ : Scope) (g f : ℕ) (t : Ty) → declared Γ (field g f) ≡ some t → DeclaredField Γ.program g f t
unfolding declared
declared-field Γ g f t d =
    let b = seen-shape Γ g (field_ty f) t d in
    let k = field-shape b.found f t b.leads in
    record {
      widths = k.widths;
      width = k.width;
      is = b.is ∙ ap some k.is;
      found = k.found;
      typed = k.typed;
    }

pub shaped-header : (Γ : Scope) (g : ℕ) (widths : List ℕ) → and_look (shape_for Γ g) header_only ≡ some widths
    → global_at Γ.program g ≡ some (a_header widths)
shaped-header Γ g widths d =
    let b = seen-shape Γ g header_only widths d in
    b.is ∙ ap some (header-shape b.found widths b.leads)

-- a header of whole bytes
record WholeShape (shape : Shape) (widths : List ℕ) : Type 0 where
  header : header_only shape ≡ some widths
  whole : bits_in widths % 8 ≡ 0

whole-shape : (shape : Shape) (widths : List ℕ) → whole_header shape ≡ some widths → WholeShape shape widths
unfolding whole_header header_only
whole-shape (a_variable t) widths e = let z : ◌≡◌ {A = ℕ} 0 1 = cc in absurd (omega arith)
whole-shape (a_header ws) widths e = go (whole_bytes ws) refl e
  where
    go : (b : Bool) → whole_bytes ws ≡ b → only_if b (some ws) ≡ some widths → WholeShape (a_header ws) widths
    go true q r = unfold only_if header_only whole_bytes in
        let same : ws ≡ widths = cc in
        record { header = r; whole = rw (← same) (eqb-true (bits_in ws % 8) 0 q) }
    go false q r = unfold only_if in let z : ◌≡◌ {A = ℕ} 0 1 = cc in absurd (omega arith)

pub record WholeHeader (Γ : Scope) (g : ℕ) (widths : List ℕ) : Type 0 where
  pub header : and_look (shape_for Γ g) header_only ≡ some widths
  pub whole : bits_in widths % 8 ≡ 0

pub shaped-whole : (Γ : Scope) (g : ℕ) (widths : List ℕ) → and_look (shape_for Γ g) whole_header ≡ some widths
    → WholeHeader Γ g widths
unfolding and_look
shaped-whole Γ g widths d =
    let b = behind (shape_for Γ g) whole_header widths d in
    let k = whole-shape b.found widths b.leads in
    record { header = rw b.is k.header; whole = k.whole }
