-- How it runs (document 01, the section of that name; document 02, E2). A construct runs to an answer, a later state
-- and the stores that its steps saw; it is stuck where its values, places, names or argument counts are not as "What is
-- well formed" asks; it is full where a call's slots pass the capacity. Directions, copy-in and copy-out are those of
-- source document 000, section 2.2; an out parameter starts at 0, as that document's prose has it and its call rule has
-- not. Calls and signals are 004's.
use Rattle.std.specs.Prelude.{Bool, true, false, not, ◌&&◌, ◌||◌, ℕ, zero, suc, ◌+◌, ◌-◌, ◌*◌, ◌/◌, ◌%◌, ◌^◌, List, [], ◌∷◌, ◌++◌, map, ltb, leb, eqb, length, take, drop}
use Rattle.std.proofs.Math.Option.{Option, none, some}
use Rattle.std.specs.Int.Bits.{bit_and, bit_or, bit_xor}
use Rattle.std.proofs.Math.ListN.{get_elem?}
use Rattle.rules.specs.declared.Signal.{Signal}
use Rattle.rules.specs.declared.Signal.TheVariants.{Done, Exit, Reject}
use Rattle.rules.specs.Words.{fits_width, sum, difference, product, complement_of, shifted_left, shifted_right, cast_to, slice_fits, slice_width, slice_of, join_fits, joined, prefix_matches, prefix_fits, mask_matches, mask_fits}
use Rattle.rules.specs.Syntax.{Ty, bool, bits, Value, value, KeyKind, exact, lpm, ternary}
use Rattle.rules.specs.Syntax.{Arithmetic, plus, minus, times, and, or, xor, Order, less, less_or_equal, Shift, shift_left, shift_right, Equality, equal, unequal, Logic, both, either}
use Rattle.rules.specs.Syntax.{Operator, arithmetic, order, shift, equality, logic, Place, local, parameter, global, field}
use Rattle.rules.specs.Syntax.{Expr, bool_literal, bits_literal, read_of, valid_of, negation, complement, binary, cast, slice, concatenation, call_expr, Args, no_args, arg}
use Rattle.rules.specs.Syntax.{Stmt, empty, assign, if_else, block, call_stmt, apply, return_value, return, exit, set_valid, set_invalid, extract, verify, Stmts, no_stmts, stmt}
use Rattle.rules.specs.Syntax.{Parameter, Callable, Key, Table, Pair, Transition, no_transition, accept, reject, lead_to, select, ParserState, Program, place_in}
use Rattle.rules.specs.Form.{Res, ok, fault, and_look, only_if, same_ty, fits, Shape, a_variable, a_header, global_at, callable_below, wants_place, goes_in, comes_back}
use Rattle.rules.specs.Form.{Body, in_function, in_action, in_apply, in_state, Scope, sees_globals, writable, may_call, is_state, may_leave, scope_of, apply_scope, state_scope, bits_in, whole_bytes, values_fit, is_lpm, one_lpm, listable}
use Rattle.rules.specs.Lists.{Pattern, exactly, prefixed, masked, Entry, Cell, variable_cell, header_cell, action_at, mark_of, slots_of}

infixl 20 ◌>>=◌
-- the store, the numbers that a body's parameters and locals hold, and the packet's bytes that are not read yet
pub record State : Type 0 where
  pub store : List Cell
  pub parameters : List ℕ
  pub locals : List ℕ
  pub packet : List ℕ

-- how a statement ends: the next one goes on; its body ends, with a value or without; the whole run ends, by an exit or
-- by a reject with its error
pub data Ending : Type 0 where
  onward returned : Ending
  returned_value : Value → Ending
  exited : Ending
  rejected : (error : ℕ) → Ending

-- the store as it stood just before each step: there are as many steps as stores
abbrev pub Seen : Type 0
Seen = List (List Cell)

-- an answer with the later state and what was seen; stuck; full
pub data Out (S A : Type 0) : Type 0 where
  done : A → S → Seen → Out S A
  stuck full : Out S A

abbrev pub M : Type 0 → Type 0 → Type 0
M S A = S → Out S A

unfoldable pub more : {S A : Type 0} → Seen → Out S A → Out S A
more seen (done a s later) = done a s (seen ++ later)
more seen stuck = stuck
more seen full = full

unfoldable pub next : {S A B : Type 0} → Out S A → (A → M S B) → Out S B
next (done a s seen) k = more seen (k a s)
next stuck k = stuck
next full k = full

unfoldable pub ◌>>=◌ : {S A B : Type 0} → M S A → (A → M S B) → M S B
◌>>=◌ m k s = next (m s) k

unfoldable pub pure : {S A : Type 0} → A → M S A
pure a s = done a s []

unfoldable pub nowhere : {S A : Type 0} → M S A
nowhere s = stuck

-- a step is counted as its construct begins: it sees the store as it stands there
unfoldable pub tick : {A : Type 0} → M State A → M State A
tick m s = more (s.store ∷ []) (m s)

unfoldable pub or_stuck : {S A : Type 0} → Option A → M S A
or_stuck none s = stuck
or_stuck (some a) s = done a s []

unfoldable pub must : {S : Type 0} → Bool → M S (Unit {0})
must true s = done tt s []
must false s = stuck

unfoldable pub gets : {S A : Type 0} → (S → Option A) → M S A
gets f s = or_stuck (f s) s

unfoldable pub set_to : {S : Type 0} → Option S → Out S (Unit {0})
set_to none = stuck
set_to (some s) = done tt s []

unfoldable pub puts : {S : Type 0} → (S → Option S) → M S (Unit {0})
puts f s = set_to (f s)

-- the i-th member, changed
unfoldable pub change : {A : Type 0} → (A → Option A) → List A → ℕ → Option (List A)
change f [] i = none
change f (x ∷ xs) zero = and_look (f x) λ y. some (y ∷ xs)
change f (x ∷ xs) (suc i) = and_look (change f xs i) λ ys. some (x ∷ ys)

-- values: a number of a type; a truth as a bool
unfoldable pub number_of : Ty → Value → Option ℕ
number_of t (value u n) = only_if (same_ty t u) (some n)

unfoldable pub truth : Bool → Value
truth b = value bool (mark_of b)

-- the type that a place is declared with
unfoldable pub variable_ty : Shape → Option Ty
variable_ty (a_variable t) = some t
variable_ty (a_header widths) = none

unfoldable pub field_ty : ℕ → Shape → Option Ty
field_ty f (a_variable t) = none
field_ty f (a_header widths) = and_look (get_elem? widths f) λ width. some (bits width)

unfoldable pub header_only : Shape → Option (List ℕ)
header_only (a_variable t) = none
header_only (a_header widths) = some widths

unfoldable pub shape_for : Scope → ℕ → Option Shape
shape_for Γ g = only_if (sees_globals Γ.body) (global_at Γ.program g)

unfoldable pub declared : Scope → Place → Option Ty
declared Γ (local i) = get_elem? Γ.locals i
declared Γ (parameter i) = and_look (get_elem? Γ.parameters i) λ p. some p.ty
declared Γ (global g) = and_look (shape_for Γ g) variable_ty
declared Γ (field g f) = and_look (shape_for Γ g) (field_ty f)

-- the number that a place holds
unfoldable pub variable_in : Cell → Option ℕ
variable_in (variable_cell n) = some n
variable_in (header_cell valid ns) = none

unfoldable pub field_in : ℕ → Cell → Option ℕ
field_in f (variable_cell n) = none
field_in f (header_cell valid ns) = get_elem? ns f

unfoldable pub valid_in : Cell → Option Bool
valid_in (variable_cell n) = none
valid_in (header_cell valid ns) = some valid

unfoldable pub held : Place → State → Option ℕ
held (local i) s = get_elem? s.locals i
held (parameter i) s = get_elem? s.parameters i
held (global g) s = and_look (get_elem? s.store g) variable_in
held (field g f) s = and_look (get_elem? s.store g) (field_in f)

-- a number put into a place; writing a field of an invalid header does nothing
unfoldable pub set_variable : ℕ → Cell → Option Cell
set_variable n (variable_cell old) = some (variable_cell n)
set_variable n (header_cell valid ns) = none

unfoldable pub set_field : ℕ → ℕ → Cell → Option Cell
set_field f n (variable_cell old) = none
set_field f n (header_cell false ns) = some (header_cell false ns)
set_field f n (header_cell true ns) = and_look (change (λ _. some n) ns f) λ ms. some (header_cell true ms)

unfoldable pub zeroed : List ℕ → List ℕ
zeroed = map λ _. 0

unfoldable pub make_valid : Cell → Option Cell
make_valid (variable_cell n) = none
make_valid (header_cell false ns) = some (header_cell true (zeroed ns))
make_valid (header_cell true ns) = some (header_cell true ns)

unfoldable pub make_invalid : Cell → Option Cell
make_invalid (variable_cell n) = none
make_invalid (header_cell valid ns) = some (header_cell false (zeroed ns))

unfoldable pub with_store : State → List Cell → State
with_store s cells = record { store = cells; parameters = s.parameters; locals = s.locals; packet = s.packet }

unfoldable pub with_parameters : State → List ℕ → State
with_parameters s ns = record { store = s.store; parameters = ns; locals = s.locals; packet = s.packet }

unfoldable pub with_locals : State → List ℕ → State
with_locals s ns = record { store = s.store; parameters = s.parameters; locals = ns; packet = s.packet }

unfoldable pub with_packet : State → List ℕ → State
with_packet s ns = record { store = s.store; parameters = s.parameters; locals = s.locals; packet = ns }

unfoldable pub change_store : (Cell → Option Cell) → ℕ → State → Option State
change_store f g s = and_look (change f s.store g) λ cells. some (with_store s cells)

unfoldable pub put : Place → ℕ → State → Option State
put (local i) n s = and_look (change (λ _. some n) s.locals i) λ ns. some (with_locals s ns)
put (parameter i) n s = and_look (change (λ _. some n) s.parameters i) λ ns. some (with_parameters s ns)
put (global g) n s = change_store (set_variable n) g s
put (field g f) n s = change_store (set_field f n) g s

-- reading and writing: a place holds its declared type, and takes no other
unfoldable pub read_at : Scope → Place → M State Value
read_at Γ p = do t ← or_stuck (declared Γ p); n ← gets (held p); pure (value t n)

unfoldable pub write_at : Scope → Place → Value → M State (Unit {0})
write_at Γ p v = do t ← or_stuck (only_if (writable Γ p) (declared Γ p)); n ← or_stuck (number_of t v); puts (put p n)

unfoldable pub change_header : Scope → ℕ → (Cell → Option Cell) → M State (Unit {0})
change_header Γ g f = or_stuck (and_look (shape_for Γ g) header_only) >>= λ _. puts (change_store f g)

unfoldable pub valid_at : Scope → ℕ → M State Value
valid_at Γ g = do
  widths ← or_stuck (and_look (shape_for Γ g) header_only)
  b ← gets (λ s. and_look (get_elem? s.store g) valid_in)
  pure (truth b)

-- the bits of a byte and of a packet, the highest first, and the number that bits stand for
unfoldable pub bits_below : ℕ → ℕ → List ℕ
bits_below zero n = []
bits_below (suc i) n = (n / 2 ^ i % 2) ∷ bits_below i n

unfoldable pub bits_of_bytes : List ℕ → List ℕ
bits_of_bytes [] = []
bits_of_bytes (n ∷ ns) = bits_below 8 n ++ bits_of_bytes ns

unfoldable pub number_of_bits : ℕ → List ℕ → ℕ
number_of_bits front [] = front
number_of_bits front (b ∷ bs) = number_of_bits (front * 2 + b) bs

-- each field takes the next bits
unfoldable pub fields_from : List ℕ → List ℕ → List ℕ
fields_from [] bs = []
fields_from (width ∷ widths) bs = number_of_bits 0 (take width bs) ∷ fields_from widths (drop width bs)

-- extract fills a header from the unread bytes and makes it valid
unfoldable pub fill_header : List ℕ → Cell → Option Cell
fill_header ns (variable_cell n) = none
fill_header ns (header_cell valid old) = some (header_cell true ns)

unfoldable pub bytes_in : List ℕ → ℕ
bytes_in widths = bits_in widths / 8

unfoldable pub take_header : ℕ → List ℕ → State → Option State
take_header g widths s = and_look (change_store (fill_header (fields_from widths (bits_of_bytes s.packet))) g s) λ filled.
    some (with_packet filled (drop (bytes_in widths) s.packet))

-- the errors of a packet that is too short, a select without a match, a state with no transition
abbrev pub short_packet : ℕ
short_packet = 1

abbrev pub no_match : ℕ
no_match = 2

abbrev pub no_way_on : ℕ
no_way_on = 3

unfoldable pub extract_into : ℕ → List ℕ → M State Ending
extract_into g widths s = elim (leb (bytes_in widths) (length s.packet)) [
  | true ↦ next (puts (take_header g widths) s) (λ _. pure onward)
  | false ↦ pure (rejected short_packet) s
]

unfoldable pub whole_header : Shape → Option (List ℕ)
whole_header (a_variable t) = none
whole_header (a_header widths) = only_if (whole_bytes widths) (some widths)

unfoldable pub extract_at : Scope → ℕ → M State Ending
extract_at Γ g = or_stuck (and_look (shape_for Γ g) whole_header) >>= λ widths. extract_into g widths

-- operators on values
unfoldable pub calculate : Arithmetic → ℕ → ℕ → ℕ → ℕ
calculate plus width n m = sum width n m
calculate minus width n m = difference width n m
calculate times width n m = product width n m
calculate and width n m = bit_and n m
calculate or width n m = bit_or n m
calculate xor width n m = bit_xor n m

unfoldable pub compare : Order → ℕ → ℕ → Bool
compare less n m = ltb n m
compare less_or_equal n m = leb n m

unfoldable pub shift_by : Shift → ℕ → ℕ → ℕ → ℕ
shift_by shift_left width n m = shifted_left width n m
shift_by shift_right width n m = shifted_right width n m

unfoldable pub agree : Equality → Bool → Bool
agree equal b = b
agree unequal b = not b

unfoldable pub arithmetic_on : Arithmetic → Value → Value → Option Value
arithmetic_on o (value bool n) v = none
arithmetic_on o (value (bits width) n) (value bool m) = none
arithmetic_on o (value (bits width) n) (value (bits other) m) =
    only_if (eqb width other) (some (value (bits width) (calculate o width n m)))

unfoldable pub order_on : Order → Value → Value → Option Value
order_on o (value bool n) v = none
order_on o (value (bits width) n) (value bool m) = none
order_on o (value (bits width) n) (value (bits other) m) = only_if (eqb width other) (some (truth (compare o n m)))

unfoldable pub shift_on : Shift → Value → Value → Option Value
shift_on o (value bool n) v = none
shift_on o (value (bits width) n) (value bool m) = none
shift_on o (value (bits width) n) (value (bits other) m) = some (value (bits width) (shift_by o width n m))

unfoldable pub equality_on : Equality → Value → Value → Option Value
equality_on o (value t n) (value u m) = only_if (same_ty t u) (some (truth (agree o (eqb n m))))

unfoldable pub not_on : Value → Option Value
not_on (value bool n) = some (value bool (1 - n))
not_on (value (bits width) n) = none

unfoldable pub complement_on : Value → Option Value
complement_on (value bool n) = none
complement_on (value (bits width) n) = some (value (bits width) (complement_of width n))

unfoldable pub cast_on : ℕ → Value → Option Value
cast_on width (value bool n) = none
cast_on width (value (bits other) n) = some (value (bits width) (cast_to width n))

unfoldable pub slice_on : ℕ → ℕ → Value → Option Value
slice_on high low (value bool n) = none
slice_on high low (value (bits width) n) =
    only_if (slice_fits high low width) (some (value (bits (slice_width high low)) (slice_of high low n)))

unfoldable pub concatenation_on : Value → Value → Option Value
concatenation_on (value bool n) v = none
concatenation_on (value (bits width) n) (value bool m) = none
concatenation_on (value (bits width) n) (value (bits other) m) =
    only_if (join_fits width other) (some (value (bits (width + other)) (joined other n m)))

-- by a bool's value: the first where it is true, the second where it is false
unfoldable pub choose : {S A : Type 0} → Value → M S A → M S A → M S A
choose (value bool zero) first second = second
choose (value bool (suc n)) first second = first
choose (value (bits width) n) first second = nowhere

-- both and either stop early
unfoldable pub logic_with : {S : Type 0} → Logic → Value → M S Value → M S Value
logic_with both v second = choose v second (pure (truth false))
logic_with either v second = choose v (pure (truth true)) second

unfoldable pub a_bool : Value → Option Value
a_bool (value bool n) = some (value bool n)
a_bool (value (bits width) n) = none

unfoldable pub binary_with : {S : Type 0} → Operator → M S Value → M S Value → M S Value
binary_with (arithmetic o) a b = a >>= λ v. b >>= λ u. or_stuck (arithmetic_on o v u)
binary_with (order o) a b = a >>= λ v. b >>= λ u. or_stuck (order_on o v u)
binary_with (shift o) a b = a >>= λ v. b >>= λ u. or_stuck (shift_on o v u)
binary_with (equality o) a b = a >>= λ v. b >>= λ u. or_stuck (equality_on o v u)
binary_with (logic o) a b = a >>= λ v. logic_with o v (b >>= λ u. or_stuck (a_bool u))

-- endings: what follows in a block; the value of a function; how a call statement goes on
unfoldable pub and_then_run : {S : Type 0} → Ending → M S Ending → M S Ending
and_then_run onward rest = rest
and_then_run returned rest = pure returned
and_then_run (returned_value v) rest = pure (returned_value v)
and_then_run exited rest = pure exited
and_then_run (rejected e) rest = pure (rejected e)

unfoldable pub value_of : Ending → Option Value
value_of onward = none
value_of returned = none
value_of (returned_value v) = some v
value_of exited = none
value_of (rejected e) = none

unfoldable pub after_call : Ending → Ending
after_call onward = onward
after_call returned = onward
after_call (returned_value v) = onward
after_call exited = exited
after_call (rejected e) = rejected e

-- a function's body ends with a value
unfoldable pub body_ended : Option Ty → Ending → Option Ending
body_ended none ending = some ending
body_ended (some t) ending = and_look (value_of ending) λ v. some (returned_value v)

-- what calls do: with so many slots in use, callable f is given its parameters' numbers; it ends, and leaves them
-- changed
abbrev pub Calls : Type 0
Calls = ℕ → ℕ → List ℕ → M (List Cell) (Ending × List ℕ)

unfoldable pub enter : {A : Type 0} → State → Out (List Cell) A → Out State A
enter s (done a cells seen) = done a (with_store s cells) seen
enter s stuck = stuck
enter s full = full

unfoldable pub on_store : {A : Type 0} → M (List Cell) A → M State A
on_store m s = enter s (m s.store)

-- an argument for out or inout is a writable place of the parameter's type
unfoldable pub declared_as : Ty → Option Ty → Bool
declared_as t none = false
declared_as t (some u) = same_ty t u

unfoldable pub out_place : Scope → Ty → Option Place → Bool
out_place Γ t none = false
out_place Γ t (some p) = writable Γ p && declared_as t (declared Γ p)

-- what goes in: the argument's value, which of an inout place is the one at that moment; or 0 or false
unfoldable pub take_in : Bool → Ty → M State Value → M State ℕ
take_in true t run = run >>= λ v. or_stuck (number_of t v)
take_in false t run = tick (pure 0)

unfoldable pub go_in : Scope → Parameter → Option Place → M State Value → M State ℕ
go_in Γ p place run = do
  asked ← must (not (wants_place p.direction) || out_place Γ p.ty place)
  take_in (goes_in p.direction) p.ty run

unfoldable pub write_back : Scope → Option Place → Value → M State (Unit {0})
write_back Γ none v = nowhere
write_back Γ (some p) v = write_at Γ p v

-- one write, then the others
unfoldable pub in_turn : {S : Type 0} → M S (Unit {0}) → M S (Unit {0}) → M S (Unit {0})
in_turn first others = first >>= λ _. others

-- what comes back, from left to right
unfoldable pub come_back : Scope → Args → List Parameter → List ℕ → M State (Unit {0})
come_back Γ no_args [] [] = pure tt
come_back Γ no_args [] (n ∷ ns) = nowhere
come_back Γ no_args (p ∷ ps) ns = nowhere
come_back Γ (arg e xs) [] ns = nowhere
come_back Γ (arg e xs) (p ∷ ps) [] = nowhere
come_back Γ (arg e xs) (p ∷ ps) (n ∷ ns) = elim (comes_back p.direction) [
  | true ↦ in_turn (write_back Γ (place_in e) (value p.ty n)) (come_back Γ xs ps ns)
  | false ↦ come_back Γ xs ps ns
]

-- behind a body: exit and reject end the run at once and write nothing back
unfoldable pub after_body : Ending → M State (Unit {0}) → M State Ending
after_body onward back = back >>= λ _. pure onward
after_body returned back = back >>= λ _. pure returned
after_body (returned_value v) back = back >>= λ _. pure (returned_value v)
after_body exited back = pure exited
after_body (rejected e) back = pure (rejected e)

-- in a body with this scope, with so many slots in use
module _ (Γ : Scope) (used : ℕ) (calls : Calls) where
  -- a call whose arguments are worked out
  unfoldable pub run_call : ℕ → Args → List Parameter → List ℕ → M State Ending
  run_call f xs ps ns = do r ← on_store (calls used f ns); after_body r.0 (come_back Γ xs ps r.1)

  unfoldable mutual
    pub run_expr : Expr → M State Value
    run_expr (bool_literal at n) = tick (or_stuck (only_if (fits bool n) (some (value bool n))))
    run_expr (bits_literal at width n) = tick (or_stuck (only_if (fits (bits width) n) (some (value (bits width) n))))
    run_expr (read_of at p) = tick (read_at Γ p)
    run_expr (valid_of at g) = tick (valid_at Γ g)
    run_expr (negation at a) = tick (run_expr a >>= λ v. or_stuck (not_on v))
    run_expr (complement at a) = tick (run_expr a >>= λ v. or_stuck (complement_on v))
    run_expr (binary at o a b) = tick (binary_with o (run_expr a) (run_expr b))
    run_expr (cast at width a) = tick (run_expr a >>= λ v. or_stuck (cast_on width v))
    run_expr (slice at high low a) = tick (run_expr a >>= λ v. or_stuck (slice_on high low v))
    run_expr (concatenation at a b) = tick (run_expr a >>= λ v. run_expr b >>= λ u. or_stuck (concatenation_on v u))
    run_expr (call_expr at f xs) = tick (do
      c ← or_stuck (callable_below Γ.program Γ.reach f)
      t ← or_stuck c.returns
      allowed ← must (may_call Γ.body c.returns)
      ns ← run_args xs c.parameters
      ending ← run_call f xs c.parameters ns
      or_stuck (value_of ending))

    pub run_args : Args → List Parameter → M State (List ℕ)
    run_args no_args [] = pure []
    run_args no_args (p ∷ ps) = nowhere
    run_args (arg e xs) [] = nowhere
    run_args (arg e xs) (p ∷ ps) = do n ← go_in Γ p (place_in e) (run_expr e); ns ← run_args xs ps; pure (n ∷ ns)

-- return: a value of its type in a function; without one, as exit, in actions and the apply body
unfoldable pub returned_from : Body → Value → Option Ending
returned_from (in_function t) v = and_look (number_of t v) λ n. some (returned_value (value t n))
returned_from in_action v = none
returned_from in_apply v = none
returned_from in_state v = none

unfoldable pub leave_by : {S : Type 0} → Body → Ending → M S Ending
leave_by body ending = must (may_leave body) >>= λ _. pure ending

-- `applied` is what an apply does: nothing covers one in a callable or a state
module _ (Γ : Scope) (used : ℕ) (calls : Calls) (applied : ℕ → M State Ending) where
  unfoldable mutual
    pub run_stmt : Stmt → M State Ending
    run_stmt (empty at) = tick (pure onward)
    run_stmt (assign at target p e) = tick (run_expr Γ used calls e >>= λ v. write_at Γ p v >>= λ _. pure onward)
    run_stmt (if_else at c a b) = tick (run_expr Γ used calls c >>= λ v. choose v (run_stmt a) (run_stmt b))
    run_stmt (block at ss) = tick (run_stmts ss)
    run_stmt (call_stmt at f xs) = tick (do
      c ← or_stuck (callable_below Γ.program Γ.reach f)
      allowed ← must (may_call Γ.body c.returns)
      ns ← run_args Γ used calls xs c.parameters
      ending ← run_call Γ used calls f xs c.parameters ns
      pure (after_call ending))
    run_stmt (apply at t) = tick (applied t)
    run_stmt (return_value at e) = tick (run_expr Γ used calls e >>= λ v. or_stuck (returned_from Γ.body v))
    run_stmt (return at) = tick (leave_by Γ.body returned)
    run_stmt (exit at) = tick (leave_by Γ.body exited)
    run_stmt (set_valid at g) = tick (change_header Γ g make_valid >>= λ _. pure onward)
    run_stmt (set_invalid at g) = tick (change_header Γ g make_invalid >>= λ _. pure onward)
    run_stmt (extract at g) = tick (must (is_state Γ.body) >>= λ _. extract_at Γ g)
    run_stmt (verify at c e) = tick (do
      allowed ← must (is_state Γ.body)
      v ← run_expr Γ used calls c
      choose v (pure onward) (pure (rejected e)))

    pub run_stmts : Stmts → M State Ending
    run_stmts no_stmts = pure onward
    run_stmts (stmt s ss) = run_stmt s >>= λ ending. and_then_run ending (run_stmts ss)

-- a callable's body: what it leaves is the store and its parameters' numbers
unfoldable pub left : List ℕ → List Cell → Seen → Option Ending → Out (List Cell) (Ending × List ℕ)
left ns cells seen none = stuck
left ns cells seen (some ending) = done (ending, ns) cells seen

unfoldable pub leave : Option Ty → Out State Ending → Out (List Cell) (Ending × List ℕ)
leave returns (done ending s seen) = left s.parameters s.store seen (body_ended returns ending)
leave returns stuck = stuck
leave returns full = full

-- a fresh state: locals at 0 or false; a callable sees no packet
unfoldable pub fresh : Callable → List ℕ → List Cell → State
fresh c ns cells = record { store = cells; parameters = ns; locals = map (λ _. 0) c.locals; packet = [] }

module _ (capacity : ℕ) (P : Program) where
  -- its slots: one for each parameter and local, above those in use
  unfoldable pub run_body : ℕ → Calls → Callable → ℕ → List ℕ → M (List Cell) (Ending × List ℕ)
  run_body n lower c used ns cells =
      let taken = used + (length c.parameters + length c.locals) in
      elim (leb taken capacity) [
        | true ↦ leave c.returns (run_stmt (scope_of P n c) taken lower (λ t. nowhere) c.body (fresh c ns cells))
        | false ↦ full
      ]

  unfoldable pub run_number : ℕ → Calls → Option Callable → ℕ → List ℕ → M (List Cell) (Ending × List ℕ)
  run_number n lower none used ns = nowhere
  run_number n lower (some c) used ns = run_body n lower c used ns

  -- what the callables below n do
  unfoldable pub calls_below : ℕ → Calls
  calls_below zero used f ns = nowhere
  calls_below (suc n) used f ns = elim (eqb f n) [
    | true ↦ run_number n (calls_below n) (get_elem? P.callables n) used ns
    | false ↦ calls_below n used f ns
  ]

-- entries that fit the keys' widths and their action's parameters
unfoldable pub pattern_fits : ℕ → Pattern → Bool
pattern_fits width (exactly v) = fits_width width v
pattern_fits width (prefixed v prefix) = fits_width width v && prefix_fits width v prefix
pattern_fits width (masked v mask) = fits_width width v && mask_fits width v mask

unfoldable pub patterns_fit : List ℕ → List Pattern → Bool
patterns_fit [] [] = true
patterns_fit [] (p ∷ ps) = false
patterns_fit (width ∷ widths) [] = false
patterns_fit (width ∷ widths) (p ∷ ps) = pattern_fits width p && patterns_fit widths ps

unfoldable pub arguments_fit : List Parameter → List ℕ → Bool
arguments_fit [] [] = true
arguments_fit [] (n ∷ ns) = false
arguments_fit (p ∷ ps) [] = false
arguments_fit (p ∷ ps) (n ∷ ns) = fits p.ty n && arguments_fit ps ns

unfoldable pub arguments_given : Option Callable → List ℕ → Bool
arguments_given none ns = false
arguments_given (some c) ns = arguments_fit c.parameters ns

-- a key's number against an entry's pattern
unfoldable pub matches : ℕ → Pattern → ℕ → Bool
matches width (exactly v) n = eqb n v
matches width (prefixed v prefix) n = prefix_matches width prefix v n
matches width (masked v mask) n = mask_matches mask v n

pub record Worked : Type 0 where
  pub width : ℕ
  pub number : ℕ

unfoldable pub matches_all : List Worked → List Pattern → Bool
matches_all [] ps = true
matches_all (k ∷ ks) [] = true
matches_all (k ∷ ks) (p ∷ ps) = matches k.width p k.number && matches_all ks ps

-- the prefix length of an entry's lpm key
unfoldable pub prefix_of : List Pattern → ℕ
prefix_of [] = 0
prefix_of (exactly v ∷ ps) = prefix_of ps
prefix_of (prefixed v prefix ∷ ps) = prefix
prefix_of (masked v mask ∷ ps) = prefix_of ps

unfoldable pub is_ternary : KeyKind → Bool
is_ternary exact = false
is_ternary lpm = false
is_ternary ternary = true

unfoldable pub any_key : (KeyKind → Bool) → List Key → Bool
any_key test [] = false
any_key test (k ∷ ks) = test k.kind || any_key test ks

-- the longest prefix wins where the table has an lpm key and no ternary one
unfoldable pub longest_wins : List Key → Bool
longest_wins ks = any_key is_lpm ks && not (any_key is_ternary ks)

pub data Found : Type 0 where
  found : Entry → Found
  nothing : Found

-- whether an entry beats one that stands before it: ties go to the earlier
unfoldable pub beats : Bool → Entry → Entry → Bool
beats longest e earlier = longest && ltb (prefix_of earlier.patterns) (prefix_of e.patterns)

unfoldable pub better : Bool → Found → Entry → Found
better longest nothing e = found e
better longest (found b) e = elim (beats longest e b) [ true ↦ found e | false ↦ found b ]

unfoldable pub look_up : Bool → List Worked → Found → List Entry → Found
look_up longest ks best [] = best
look_up longest ks best (e ∷ es) = elim (matches_all ks e.patterns) [
  | true ↦ look_up longest ks (better longest best e) es
  | false ↦ look_up longest ks best es
]

unfoldable pub entries_of : ℕ → List Entry → List Entry
entries_of t [] = []
entries_of t (e ∷ es) = elim (eqb e.table t) [ true ↦ e ∷ entries_of t es | false ↦ entries_of t es ]

unfoldable pub worked : Value → Option Worked
worked (value bool n) = none
worked (value (bits width) n) = some (record { width = width; number = n })

unfoldable pub is_fine : {A : Type 0} → Res A → Bool
is_fine (ok a) = true
is_fine (fault number at) = false

unfoldable pub entries_fit : Program → Table → List ℕ → List Entry → Bool
entries_fit P T widths [] = true
entries_fit P T widths (e ∷ es) =
    patterns_fit widths e.patterns
    && (arguments_given (action_at P T e.position) e.arguments && entries_fit P T widths es)

-- apply: the keys, then the entry or the default
module _ (P : Program) (used : ℕ) (calls : Calls) where
  unfoldable pub run_keys : List Key → M State (List Worked)
  run_keys [] = pure []
  run_keys (k ∷ ks) = do
    v ← run_expr (apply_scope P) used calls k.expr
    w ← or_stuck (worked v)
    ws ← run_keys ks
    pure (w ∷ ws)

  unfoldable pub run_action : Table → ℕ → List ℕ → M State Ending
  run_action T position ns = do
    a ← or_stuck (get_elem? T.actions position)
    c ← or_stuck (get_elem? P.callables a.number)
    asked ← must (listable c && arguments_fit c.parameters ns)
    r ← on_store (calls used a.number ns)
    pure (after_call r.0)

  unfoldable pub run_found : Table → Found → M State Ending
  run_found T (found e) = run_action T e.position e.arguments
  run_found T nothing = run_action T T.default.number (map (λ n. n.number) T.arguments)

  unfoldable pub run_table : List Entry → ℕ → M State Ending
  run_table entries t = do
    T ← or_stuck (get_elem? P.tables t)
    ks ← run_keys T.keys
    asked ← must (is_fine (one_lpm false T.keys) && entries_fit P T (map (λ k. k.width) ks) (entries_of t entries))
    run_found T (look_up (longest_wins T.keys) ks nothing (entries_of t entries))

-- the parser block. Of a select's values the first equal one wins; `later` is what a later state does
unfoldable pub selected : (ℕ → M State Ending) → ℕ → List Pair → M State Ending
selected later n [] = pure (rejected no_match)
selected later n (p ∷ ps) = elim (eqb n p.value.number) [
  | true ↦ later p.state.number
  | false ↦ selected later n ps
]

module _ (P : Program) (used : ℕ) (calls : Calls) where
  unfoldable pub run_transition : (ℕ → M State Ending) → Transition → M State Ending
  run_transition later no_transition = pure (rejected no_way_on)
  run_transition later accept = pure onward
  run_transition later (reject e) = pure (rejected e)
  run_transition later (lead_to s) = later s.number
  run_transition later (select at e ps) = do
    v ← run_expr (state_scope P) used calls e
    k ← or_stuck (worked v)
    asked ← must (is_fine (values_fit k.width ps))
    selected later k.number ps

  -- a state entered is a step
  unfoldable pub run_state : (ℕ → M State Ending) → ParserState → M State Ending
  run_state later s = tick (do
    ending ← run_stmt (state_scope P) used calls (λ t. nowhere) s.body
    and_then_run ending (run_transition later s.transition))

  -- state m, of a list whose first has number n; it leads to the states behind it
  unfoldable pub run_from : ℕ → List ParserState → ℕ → M State Ending
  run_from n [] m = nowhere
  run_from n (s ∷ ss) m = elim (eqb m n) [
    | true ↦ run_state (run_from (suc n) ss) s
    | false ↦ run_from (suc n) ss m
  ]

  -- parsing starts at state 0; a program of version 1 has no parser
  unfoldable pub run_parser : List ParserState → M State Ending
  run_parser [] = pure onward
  run_parser (s ∷ ss) = run_from 0 (s ∷ ss) 0

-- the whole run: the parser and, unless it rejects, the apply body, with the store's slots in use; return ends it as
-- its last statement does
unfoldable pub signal_of : Ending → Signal
signal_of onward = Done
signal_of returned = Done
signal_of (returned_value v) = Done
signal_of exited = Exit
signal_of (rejected e) = Reject e

unfoldable pub finish : Out State Ending → Out (List Cell) Signal
finish (done ending s seen) = done (signal_of ending) s.store seen
finish stuck = stuck
finish full = full

unfoldable pub started : List Cell → List ℕ → State
started cells packet = record { store = cells; parameters = []; locals = []; packet = packet }

unfoldable pub run_program : ℕ → Program → List Entry → List Cell → List ℕ → Out (List Cell) Signal
run_program capacity P entries store packet =
    let used = length (slots_of store) in
    let calls = calls_below capacity P (length P.callables) in
    finish (next (run_parser P used calls P.states (started store packet)) (λ ending.
    and_then_run ending (run_stmt (apply_scope P) used calls (run_table P used calls entries) P.body)))
