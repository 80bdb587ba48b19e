-- A store that fits a program fills no more slots than there are; a body's fresh frame mirrors its fresh state.
use mathlib.Core.Option.{Option, none, some}
use mathlib.Core.Path.{◌≡◌, refl, ◌∙◌}
use mathlib.Core.List.{List, [], ◌∷◌, map}
use Prim.Native.Nat.{ℕ, zero, suc, ◌+◌, ◌*◌, ◌≤◌, ◌<◌}
use native.Mathlib.Omega.{arith}
use lib.ListN.{length, get_or, get_elem?, length-append, length-map}
use Rattle.rules.specs.Syntax.{Ty, GlobalTy, variable, header, HeaderTy, Global, Callable, Program}
use Rattle.rules.specs.Reading.{most_fields}
use Rattle.rules.specs.Form.{and_look, a_header, shape_in}
use Rattle.rules.specs.Lists.{Cell, slots_of_cell, slots_of}
use Rattle.rules.specs.Running.{fresh}
use Rattle.rules.proofs.Predicates.{All2, nil, cons}
use Rattle.rules.proofs.Fits.{GlobalFits, StoreFits}
use Rattle.program.specs.Stands.{StandsProgram}
use Rattle.lists.specs.Listing.{shape_size}
use Rattle.store.specs.Mirrors.{most_stored, MirrorsFrame}
use Rattle.store.specs.Fills.{Clears}
use Rattle.store.proofs.Cells.{global-size}

module _ (nums directory ends : List ℕ) (P : Program) (end : ℕ) (s : StandsProgram nums directory ends P end) where
  header-most : (h : ℕ) (o : Option HeaderTy) → get_elem? P.headers h ≡ o
      → shape_size (and_look o (λ ty. some (a_header ty.widths))) ≤ 1 + most_fields
  unfolding and_look shape_size
  header-most h none e = omega arith
  header-most h (some ty) e = omega (arith, (s.headers.member h ty e).count.at_most)

  shape-most : (x : GlobalTy) → shape_size (shape_in P x) ≤ 1 + most_fields
  unfolding shape_in shape_size
  shape-most (variable t) = omega arith
  shape-most (header h) = header-most h (get_elem? P.headers h) refl

  cells-most : {gs : List Global} {cells : List Cell} → All2 (GlobalFits P) gs cells
      → length (slots_of cells) ≤ length gs * (1 + most_fields)
  unfolding slots_of
  cells-most nil = omega arith
  cells-most (cons {a = g} {b = c} {ys = cs} h hs) =
      omega (arith, length-append (slots_of_cell c) (slots_of cs), global-size h, shape-most g.ty, cells-most hs)

  pub store-most : (cells : List Cell) → StoreFits P cells → length (slots_of cells) ≤ most_stored
  store-most cells h = omega (arith, cells-most h, s.globals.few)

-- the numbers that locals begin with
abbrev pub noughts : List Ty → List ℕ
noughts ts = map (λ _. 0) ts

zeros : (ts : List Ty) (i : ℕ) → get_or (noughts ts) i 0 ≡ 0
zeros [] i = refl
zeros (t ∷ ts) zero = refl
zeros (t ∷ ts) (suc i) = zeros ts i

pub fresh-frame : (frame frame' : List ℕ) (c : Callable) (ns : List ℕ) (cells : List Cell)
    → length ns + length c.locals ≤ length frame → ((i : ℕ) → i < length ns → get_or frame i 0 ≡ get_or ns i 0)
    → Clears frame frame' (length ns) (length ns + length c.locals)
    → MirrorsFrame frame' (fresh c ns cells).parameters (fresh c ns cells).locals
unfolding fresh
fresh-frame frame frame' c ns cells room args k =
    let n : length (noughts c.locals) ≡ length c.locals = length-map c.locals (λ _. 0) in
    record {
      room = omega (arith, k.same);
      parameter = λ i h. k.before i h ∙ args i h;
      local = λ i h. k.inside (length ns + i) (omega arith) (omega arith) ∙ rw (zeros c.locals i);
    }
