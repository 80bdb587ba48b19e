-- The limits of the lists hold of every program that was read, and so a store that fits it has so many numbers at most.
use mathlib.Core.Bool.{Bool, true, false, false≢true}
use mathlib.Core.Path.{◌≡◌, refl, sym, ap}
use Prim.Native.Nat.{ℕ, zero, suc, ◌+◌, ◌*◌, ◌≤◌}
use native.Mathlib.Omega.{arith}
use mathlib.Core.List.{List, [], ◌∷◌}
use lib.ListN.{length, length-append}
use Rattle.rules.specs.Syntax.{GlobalTy, variable, header, HeaderTy, Global, Callable, ParserState, Program}
use Rattle.rules.specs.Reading.{Got, got, bad, Reader, pure, repeat, list_of, has_parser, most_states, read_state, read_states, most_headers, most_fields, most_globals, most_callables, most_parameters, most_locals, read_header, read_callable, read_after_version, read_program}
use Rattle.rules.specs.Form.{a_variable, a_header, shape_in}
use Rattle.rules.specs.Lists.{Cell, slots_of_cell, slots_of}
use Rattle.rules.proofs.Predicates.{All2, nil, cons, All, none_left, also, look-all, IfSome, if_some, if-then, from_some}
use Rattle.rules.proofs.Readers.{Given, Gives, gives_then, gives-with, gives-pure, gives_as, gives-between, gives-list}
use Rattle.rules.proofs.Fits.{GlobalFits, global_fits, StoreFits, numbers_in, cell-length}

-- the most slots of a call and of a global, and the most that a run can take
abbrev pub slots_of_call : ℕ
slots_of_call = most_parameters + most_locals

abbrev pub slots_of_global : ℕ
slots_of_global = 1 + most_fields

abbrev pub most_slots : ℕ
most_slots = most_globals * slots_of_global + most_callables * slots_of_call

abbrev HeaderLimited : HeaderTy → Type 0
HeaderLimited h = length h.widths ≤ most_fields

abbrev pub CallableLimited : Callable → Type 0
CallableLimited c = length c.parameters + length c.locals ≤ slots_of_call

-- a program with as many header fields, globals, callables, parameters and locals as the rules allow, or fewer
pub record Limited (P : Program) : Type 0 where
  pub headers : All HeaderLimited P.headers
  pub globals : length P.globals ≤ most_globals
  pub callables : length P.callables ≤ most_callables
  pub slots : All CallableLimited P.callables
  pub parserless : has_parser P.version ≡ false → P.states ≡ []

-- a program that was read
gives_all : {A : Type 0} {Q : A → Type 0} (n : ℕ) {one : Reader A} → Gives Q one
    → Gives (λ xs. (length xs ≡ n) × All Q xs) (repeat n one)
unfolding repeat
gives_all zero h = gives-pure _ [] (refl, none_left)
gives_all (suc n) h = gives-with h λ a p. gives-with (gives_all n h) λ rest ps.
    gives-pure _ (a ∷ rest) (ap suc ps.0, also p ps.1)

gives-members : {A : Type 0} {Q : A → Type 0} (least most : ℕ) {one : Reader A} → Gives Q one
    → Gives (λ xs. (length xs ≤ most) × All Q xs) (list_of least most one)
unfolding list_of
gives-members least most h = gives-with (gives-between least most) λ n m.
    gives_as (λ xs e. (rw e.0 m, e.1)) (gives_all n h)

-- what cannot be needs no proof
no-case : {A : Type 0} (Q : A → Type 0) (x : Got A) → Given (λ a. true ≡ false → Q a) x
unfolding Given
no-case Q (got a left at) = λ e. absurd (false≢true (sym e))
no-case Q (bad number at) = tt

module _ (version : ℕ) where
  gives-header : Gives HeaderLimited (read_header version)
  unfolding read_header
  gives-header = gives_then _ λ at. gives-with (gives-list 1 most_fields _) λ ws h. gives-pure _ _ h

  gives-callable : Gives CallableLimited (read_callable version)
  unfolding read_callable
  gives-callable = gives_then _ λ at. gives_then _ λ kind. gives_then _ λ returns.
      gives-with (gives-list 0 most_parameters _) λ ps h. gives-with (gives-list 0 most_locals _) λ ls k.
      gives_then _ λ body. gives-pure _ _ (omega arith)

  gives-states : Gives (λ ss. has_parser version ≡ false → ss ≡ []) (read_states version)
  unfolding read_states
  gives-states = go (has_parser version)
    where
      go : (b : Bool) → Gives {A = List ParserState} (λ ss. b ≡ false → ss ≡ []) (elim b [
        | true ↦ list_of 1 most_states (read_state version)
        | false ↦ pure []
      ])
      go true = record { given = λ left at. no-case (λ ss. ss ≡ []) (list_of 1 most_states (read_state version) left at) }
      go false = gives-pure _ [] λ _. refl

pub gives-limited : Gives Limited read_program
unfolding read_program read_after_version
gives-limited = gives_then _ λ version. gives-with (gives-members 0 most_headers (gives-header version)) λ hs h.
    gives-with (gives-list 0 most_globals _) λ gs g.
    gives-with (gives-members 0 most_callables (gives-callable version)) λ cs c. gives_then _ λ ts. gives-with (gives-states version) λ ss x.
    gives_then _ λ body.
    gives-pure _ _ (record { headers = h.1; globals = g; callables = c.0; slots = c.1; parserless = x })

-- a store that fits such a program
shape-limited : (P : Program) → Limited P → (t : GlobalTy)
    → IfSome (λ shape. numbers_in shape ≤ slots_of_global) (shape_in P t)
unfolding shape_in numbers_in
shape-limited P w (variable t) = if_some {a = a_variable t} (omega arith)
shape-limited P w (header h) = if-then (look-all w.headers h) λ ty k. if_some {a = a_header ty.widths} (omega arith)

cell-limited : (P : Program) → Limited P → {g : Global} {c : Cell} → GlobalFits P g c
    → length (slots_of_cell c) ≤ slots_of_global
cell-limited P w {g} (global_fits e h) = rw (cell-length h) (from_some (rw e at (shape-limited P w g.ty)))

cells-limited : (P : Program) → Limited P → {gs : List Global} {cs : List Cell} → All2 (GlobalFits P) gs cs
    → length (slots_of cs) ≤ length gs * slots_of_global
unfolding slots_of
cells-limited P w nil = omega arith
cells-limited P w (cons {b = c} {ys = cs} h hs) =
    omega (arith, length-append (slots_of_cell c) (slots_of cs), cell-limited P w h, cells-limited P w hs)

pub store-limited : (P : Program) → Limited P → (cells : List Cell) → StoreFits P cells
    → length (slots_of cells) ≤ most_globals * slots_of_global
store-limited P w cells h = omega (arith, cells-limited P w h, w.globals)
