-- What is well formed (document 01, the section of that name; refusals 6, 7 and 8; document 02, E2). A part is fine,
-- with what is known of it, or has a fault with its index. A construct's names come first, then its operands from left
-- to right, then itself: 7 before 8.
use Rattle.std.specs.Prelude.{Bool, true, false, not, ◌&&◌, ◌||◌, ℕ, suc, ◌+◌, ◌%◌, List, [], ◌∷◌, ltb, eqb, length}
use Rattle.std.proofs.Math.Option.{Option, none, some}
use Rattle.std.proofs.Math.ListN.{get_elem?}
use Rattle.rules.specs.Words.{fits_width, slice_fits, slice_width, join_fits}
use Rattle.rules.specs.Syntax.{Ty, bool, bits, GlobalTy, variable, header, Direction, by_none, by_in, by_out, by_inout, KeyKind, exact, lpm, ternary}
use Rattle.rules.specs.Syntax.{Operator, arithmetic, order, shift, equality, logic, Place, local, parameter, global, field}
use Rattle.rules.specs.Syntax.{Expr, bool_literal, bits_literal, read_of, valid_of, negation, complement, binary, cast, slice, concatenation, call_expr, Args, no_args, arg}
use Rattle.rules.specs.Syntax.{Stmt, empty, assign, if_else, block, call_stmt, apply, return_value, return, exit, set_valid, set_invalid, extract, verify, Stmts, no_stmts, stmt}
use Rattle.rules.specs.Syntax.{Global, Parameter, Callable, Numeral, Key, Table, Pair, Transition, no_transition, accept, reject, lead_to, select, ParserState, Program, place_in}

infixl 20 ◌>>=◌
-- fine, with what is known; or a fault and its index
pub data Res (A : Type 0) : Type 0 where
  ok : A → Res A
  fault : ℕ → ℕ → Res A

unfoldable pub ◌>>=◌ : {A B : Type 0} → Res A → (A → Res B) → Res B
◌>>=◌ (ok a) k = k a
◌>>=◌ (fault number at) k = fault number at

-- a name: 6 where there is nothing of it
unfoldable pub named : {A : Type 0} → ℕ → Option A → Res A
named at none = fault 6 at
named at (some a) = ok a

-- a rule, with the number of its refusal
unfoldable pub need : ℕ → ℕ → Bool → Res (Unit {0})
need number at true = ok tt
need number at false = fault number at

-- options: the next look-up; a value on a condition
unfoldable pub and_look : {A B : Type 0} → Option A → (A → Option B) → Option B
and_look none k = none
and_look (some a) k = k a

unfoldable pub only_if : {A : Type 0} → Bool → Option A → Option A
only_if true a = a
only_if false a = none

-- types and what fits them
unfoldable pub same_ty : Ty → Ty → Bool
same_ty bool bool = true
same_ty bool (bits width) = false
same_ty (bits width) bool = false
same_ty (bits width) (bits other) = eqb width other

unfoldable pub fits : Ty → ℕ → Bool
fits bool n = ltb n 2
fits (bits width) n = fits_width width n

-- what a global is: a variable of a type, or a header with the widths of its fields
pub data Shape : Type 0 where
  a_variable : Ty → Shape
  a_header : List ℕ → Shape

unfoldable pub shape_in : Program → GlobalTy → Option Shape
shape_in P (variable t) = some (a_variable t)
shape_in P (header h) = and_look (get_elem? P.headers h) λ ty. some (a_header ty.widths)

unfoldable pub global_at : Program → ℕ → Option Shape
global_at P g = and_look (get_elem? P.globals g) λ x. shape_in P x.ty

-- a callable calls only lower-numbered ones
unfoldable pub callable_below : Program → ℕ → ℕ → Option Callable
callable_below P reach f = only_if (ltb f reach) (get_elem? P.callables f)

-- the four questions asked of a direction: must the argument be a place, does its value go in (or 0), may the
-- callee write it, does it come back; and whether a table may list an action with such a parameter
unfoldable pub wants_place : Direction → Bool
wants_place by_none = false
wants_place by_in = false
wants_place by_out = true
wants_place by_inout = true

unfoldable pub goes_in : Direction → Bool
goes_in by_none = true
goes_in by_in = true
goes_in by_out = false
goes_in by_inout = true

unfoldable pub callee_may_write : Direction → Bool
callee_may_write by_none = false
callee_may_write by_in = false
callee_may_write by_out = true
callee_may_write by_inout = true

unfoldable pub comes_back : Direction → Bool
comes_back by_none = false
comes_back by_in = false
comes_back by_out = true
comes_back by_inout = true

unfoldable pub table_gives : Direction → Bool
table_gives by_none = true
table_gives by_in = false
table_gives by_out = false
table_gives by_inout = false

-- where a statement stands
pub data Body : Type 0 where
  in_function : Ty → Body
  in_action in_apply in_state : Body

-- what a body sees: the callables below `reach`, its parameters and locals; a function sees no globals
pub record Scope : Type 0 where
  pub program : Program
  pub reach : ℕ
  pub parameters : List Parameter
  pub locals : List Ty
  pub body : Body

unfoldable pub sees_globals : Body → Bool
sees_globals (in_function t) = false
sees_globals in_action = true
sees_globals in_apply = true
sees_globals in_state = true

-- of the places that there are, those that may be written: not a parameter that only goes in
unfoldable pub writable_as : Option Parameter → Bool
writable_as none = false
writable_as (some p) = callee_may_write p.direction

unfoldable pub writable : Scope → Place → Bool
writable Γ (local i) = true
writable Γ (parameter i) = writable_as (get_elem? Γ.parameters i)
writable Γ (global g) = true
writable Γ (field g f) = true

unfoldable pub writable_in : Scope → Option Place → Bool
writable_in Γ none = false
writable_in Γ (some p) = writable Γ p

-- a global of the wrong kind is 7, whatever the field's number; then 8 in a function
unfoldable pub judge_variable : ℕ → Shape → Res Ty
judge_variable at (a_variable t) = ok t
judge_variable at (a_header widths) = fault 7 at

unfoldable pub judge_field : ℕ → ℕ → Shape → Res Ty
judge_field at f (a_variable t) = fault 7 at
judge_field at f (a_header widths) = named (suc (suc at)) (get_elem? widths f) >>= λ width. ok (bits width)

unfoldable pub judge_header : ℕ → Shape → Res (Unit {0})
judge_header at (a_variable t) = fault 7 at
judge_header at (a_header widths) = ok tt

-- a header that is extracted has whole bytes
unfoldable pub bits_in : List ℕ → ℕ
bits_in [] = 0
bits_in (width ∷ widths) = width + bits_in widths

unfoldable pub whole_bytes : List ℕ → Bool
whole_bytes widths = eqb (bits_in widths % 8) 0

unfoldable pub judge_extracted : ℕ → Shape → Res (Unit {0})
judge_extracted at (a_variable t) = fault 7 at
judge_extracted at (a_header widths) = need 7 at (whole_bytes widths)

-- a global: its name, what is asked of its shape, and that it is seen
unfoldable pub judge_global : {A : Type 0} → Scope → ℕ → ℕ → (Shape → Res A) → Res A
judge_global Γ at g asked = do
  shape ← named (suc at) (global_at Γ.program g)
  a ← asked shape
  seen ← need 8 at (sees_globals Γ.body)
  ok a

unfoldable pub judge_place : Scope → ℕ → Place → Res Ty
judge_place Γ at (local i) = named (suc at) (get_elem? Γ.locals i)
judge_place Γ at (parameter i) = named (suc at) (get_elem? Γ.parameters i) >>= λ p. ok p.ty
judge_place Γ at (global g) = judge_global Γ at g (judge_variable at)
judge_place Γ at (field g f) = judge_global Γ at g (judge_field at f)

-- a header by its name, for tag 6 and statements 9 and 10
unfoldable pub judge_header_at : Scope → ℕ → ℕ → Res (Unit {0})
judge_header_at Γ at g = judge_global Γ at g (judge_header at)

unfoldable pub width_at : ℕ → Ty → Res ℕ
width_at at bool = fault 7 at
width_at at (bits width) = ok width

unfoldable pub need_ty : ℕ → Ty → Ty → Res (Unit {0})
need_ty at t u = need 7 at (same_ty t u)

unfoldable pub judge_operator : ℕ → Operator → Ty → Ty → Res Ty
judge_operator at (arithmetic o) t u = width_at at t >>= λ width. need_ty at t u >>= λ _. ok (bits width)
judge_operator at (order o) t u = width_at at t >>= λ width. need_ty at t u >>= λ _. ok bool
judge_operator at (shift o) t u = width_at at t >>= λ width. width_at at u >>= λ _. ok (bits width)
judge_operator at (equality o) t u = need_ty at t u >>= λ _. ok bool
judge_operator at (logic o) t u = need_ty at bool t >>= λ _. need_ty at bool u >>= λ _. ok bool

-- what a call is given: an argument's type, and whether it is a place that may be written
pub record Given : Type 0 where
  pub ty : Ty
  pub writable : Bool

-- as many arguments as parameters, of their types
unfoldable pub types_agree : List Parameter → List Given → Bool
types_agree [] [] = true
types_agree [] (x ∷ xs) = false
types_agree (p ∷ ps) [] = false
types_agree (p ∷ ps) (x ∷ xs) = same_ty p.ty x.ty && types_agree ps xs

unfoldable pub places_agree : List Parameter → List Given → Bool
places_agree [] xs = true
places_agree (p ∷ ps) [] = true
places_agree (p ∷ ps) (x ∷ xs) = (not (wants_place p.direction) || x.writable) && places_agree ps xs

unfoldable pub judge_given : ℕ → List Parameter → List Given → Res (Unit {0})
judge_given at ps xs = need 7 at (types_agree ps xs) >>= λ _. need 8 at (places_agree ps xs)

-- tag 13 calls functions only; a function calls functions only; a state calls nothing
unfoldable pub function_ty : ℕ → Option Ty → Res Ty
function_ty at none = fault 8 at
function_ty at (some t) = ok t

unfoldable pub may_call : Body → Option Ty → Bool
may_call (in_function t) none = false
may_call (in_function t) (some u) = true
may_call in_action returns = true
may_call in_apply returns = true
may_call in_state returns = false

unfoldable mutual
  pub judge_expr : Scope → Expr → Res Ty
  judge_expr Γ (bool_literal at n) = need 7 at (fits bool n) >>= λ _. ok bool
  judge_expr Γ (bits_literal at width n) = need 7 at (fits (bits width) n) >>= λ _. ok (bits width)
  judge_expr Γ (read_of at p) = judge_place Γ at p
  judge_expr Γ (valid_of at g) = judge_header_at Γ at g >>= λ _. ok bool
  judge_expr Γ (negation at a) = judge_expr Γ a >>= λ t. need_ty at bool t >>= λ _. ok bool
  judge_expr Γ (complement at a) = judge_expr Γ a >>= λ t. width_at at t >>= λ width. ok (bits width)
  judge_expr Γ (binary at o a b) = judge_expr Γ a >>= λ t. judge_expr Γ b >>= λ u. judge_operator at o t u
  judge_expr Γ (cast at width a) = judge_expr Γ a >>= λ t. width_at at t >>= λ _. ok (bits width)
  judge_expr Γ (slice at high low a) = do
    t ← judge_expr Γ a
    width ← width_at at t
    bounds ← need 7 at (slice_fits high low width)
    ok (bits (slice_width high low))
  judge_expr Γ (concatenation at a b) = do
    t ← judge_expr Γ a
    u ← judge_expr Γ b
    v ← width_at at t
    w ← width_at at u
    most ← need 7 at (join_fits v w)
    ok (bits (v + w))
  judge_expr Γ (call_expr at f xs) = do
    c ← named (suc at) (callable_below Γ.program Γ.reach f)
    given ← judge_args Γ xs
    agree ← judge_given at c.parameters given
    allowed ← need 8 at (may_call Γ.body c.returns)
    function_ty at c.returns

  pub judge_args : Scope → Args → Res (List Given)
  judge_args Γ no_args = ok []
  judge_args Γ (arg e xs) = do
    t ← judge_expr Γ e
    given ← judge_args Γ xs
    ok (record { ty = t; writable = writable_in Γ (place_in e) } ∷ given)

-- return with a value stands in functions only; return without one, and exit, in actions and the apply body; apply in
-- the apply body only; extract and verify in states only
unfoldable pub judge_returned : ℕ → Body → Ty → Res (Unit {0})
judge_returned at (in_function t) u = need_ty at t u
judge_returned at in_action u = fault 8 at
judge_returned at in_apply u = fault 8 at
judge_returned at in_state u = fault 8 at

unfoldable pub is_apply : Body → Bool
is_apply (in_function t) = false
is_apply in_action = false
is_apply in_apply = true
is_apply in_state = false

unfoldable pub is_function : Body → Bool
is_function (in_function t) = true
is_function in_action = false
is_function in_apply = false
is_function in_state = false

unfoldable pub is_state : Body → Bool
is_state (in_function t) = false
is_state in_action = false
is_state in_apply = false
is_state in_state = true

unfoldable pub may_leave : Body → Bool
may_leave body = not (is_function body || is_state body)

unfoldable mutual
  pub judge_stmt : Scope → Stmt → Res (Unit {0})
  judge_stmt Γ (empty at) = ok tt
  judge_stmt Γ (assign at target p e) = do
    t ← judge_place Γ target p
    u ← judge_expr Γ e
    one_type ← need_ty at t u
    need 8 at (writable Γ p)
  judge_stmt Γ (if_else at c a b) = do
    t ← judge_expr Γ c
    first ← judge_stmt Γ a
    second ← judge_stmt Γ b
    need_ty at bool t
  judge_stmt Γ (block at ss) = judge_stmts Γ ss
  judge_stmt Γ (call_stmt at f xs) = do
    c ← named (suc at) (callable_below Γ.program Γ.reach f)
    given ← judge_args Γ xs
    agree ← judge_given at c.parameters given
    need 8 at (may_call Γ.body c.returns)
  judge_stmt Γ (apply at t) = named (suc at) (get_elem? Γ.program.tables t) >>= λ _. need 8 at (is_apply Γ.body)
  judge_stmt Γ (return_value at e) = judge_expr Γ e >>= λ t. judge_returned at Γ.body t
  judge_stmt Γ (return at) = need 8 at (may_leave Γ.body)
  judge_stmt Γ (exit at) = need 8 at (may_leave Γ.body)
  judge_stmt Γ (set_valid at g) = judge_header_at Γ at g
  judge_stmt Γ (set_invalid at g) = judge_header_at Γ at g
  judge_stmt Γ (extract at g) = judge_global Γ at g (judge_extracted at) >>= λ _. need 8 at (is_state Γ.body)
  judge_stmt Γ (verify at c e) = do
    t ← judge_expr Γ c
    a_bool ← need_ty at bool t
    need 8 at (is_state Γ.body)

  pub judge_stmts : Scope → Stmts → Res (Unit {0})
  judge_stmts Γ no_stmts = ok tt
  judge_stmts Γ (stmt s ss) = judge_stmt Γ s >>= λ _. judge_stmts Γ ss

-- a value is returned on each path
unfoldable mutual
  pub returns_on : Stmt → Bool
  returns_on (empty at) = false
  returns_on (assign at target p e) = false
  returns_on (if_else at c a b) = returns_on a && returns_on b
  returns_on (block at ss) = some_returns ss
  returns_on (call_stmt at f xs) = false
  returns_on (apply at t) = false
  returns_on (return_value at e) = true
  returns_on (return at) = false
  returns_on (exit at) = false
  returns_on (set_valid at g) = false
  returns_on (set_invalid at g) = false
  returns_on (extract at g) = false
  returns_on (verify at c e) = false

  pub some_returns : Stmts → Bool
  some_returns no_stmts = false
  some_returns (stmt s ss) = returns_on s || some_returns ss

-- globals: a header type that there is
unfoldable pub judge_globals : Program → List Global → Res (Unit {0})
judge_globals P [] = ok tt
judge_globals P (g ∷ gs) = named g.at (shape_in P g.ty) >>= λ _. judge_globals P gs

-- callable number n: its body, then a missing return at its kind
unfoldable pub body_of : Option Ty → Body
body_of none = in_action
body_of (some t) = in_function t

unfoldable pub scope_of : Program → ℕ → Callable → Scope
scope_of P n c =
    record { program = P; reach = n; parameters = c.parameters; locals = c.locals; body = body_of c.returns }

unfoldable pub judge_callable : Program → ℕ → Callable → Res (Unit {0})
judge_callable P n c = do
  judged ← judge_stmt (scope_of P n c) c.body
  need 8 c.at (not (is_function (body_of c.returns)) || returns_on c.body)

unfoldable pub judge_callables : Program → ℕ → List Callable → Res (Unit {0})
judge_callables P n [] = ok tt
judge_callables P n (c ∷ cs) = judge_callable P n c >>= λ _. judge_callables P (suc n) cs

-- the apply body and keys see all callables, and have no locals or parameters
unfoldable pub apply_scope : Program → Scope
apply_scope P = record { program = P; reach = length P.callables; parameters = []; locals = []; body = in_apply }

-- a table: its names, its keys, its 7s in file order, its 8s in file order
unfoldable pub judge_actions : Program → List Numeral → Res (List Callable)
judge_actions P [] = ok []
judge_actions P (a ∷ rest) = do
  c ← named a.at (get_elem? P.callables a.number)
  cs ← judge_actions P rest
  ok (c ∷ cs)

unfoldable pub judge_keys : Scope → List Key → Res (List Ty)
judge_keys Γ [] = ok []
judge_keys Γ (k ∷ ks) = judge_expr Γ k.expr >>= λ t. judge_keys Γ ks >>= λ ts. ok (t ∷ ts)

-- a key's expression stands behind its kind
unfoldable pub keys_are_bits : List Key → List Ty → Res (Unit {0})
keys_are_bits [] ts = ok tt
keys_are_bits (k ∷ ks) [] = ok tt
keys_are_bits (k ∷ ks) (t ∷ ts) = width_at (suc k.at) t >>= λ _. keys_are_bits ks ts

unfoldable pub literals_fit : List Parameter → List Numeral → Res (Unit {0})
literals_fit [] ns = ok tt
literals_fit (p ∷ ps) [] = ok tt
literals_fit (p ∷ ps) (n ∷ ns) = need 7 n.at (fits p.ty n.number) >>= λ _. literals_fit ps ns

unfoldable pub is_lpm : KeyKind → Bool
is_lpm exact = false
is_lpm lpm = true
is_lpm ternary = false

-- `seen`: an lpm key stands before these
unfoldable pub one_lpm : Bool → List Key → Res (Unit {0})
one_lpm seen [] = ok tt
one_lpm seen (k ∷ ks) = need 8 k.at (not (seen && is_lpm k.kind)) >>= λ _. one_lpm (seen || is_lpm k.kind) ks

unfoldable pub table_gives_all : List Parameter → Bool
table_gives_all [] = true
table_gives_all (p ∷ ps) = table_gives p.direction && table_gives_all ps

unfoldable pub listable : Callable → Bool
listable c = not (is_function (body_of c.returns)) && table_gives_all c.parameters

unfoldable pub judge_listed : List Numeral → List Callable → Res (Unit {0})
judge_listed [] cs = ok tt
judge_listed (a ∷ rest) [] = ok tt
judge_listed (a ∷ rest) (c ∷ cs) = need 8 a.at (listable c) >>= λ _. judge_listed rest cs

unfoldable pub judge_table : Program → Table → Res (Unit {0})
judge_table P T = do
  cs ← judge_actions P T.actions
  c ← named T.default.at (get_elem? cs T.default.number)
  ts ← judge_keys (apply_scope P) T.keys
  are_bits ← keys_are_bits T.keys ts
  as_many ← need 7 T.count_at (eqb (length T.arguments) (length c.parameters))
  fit ← literals_fit c.parameters T.arguments
  single ← one_lpm false T.keys
  judge_listed T.actions cs

unfoldable pub judge_tables : Program → List Table → Res (Unit {0})
judge_tables P [] = ok tt
judge_tables P (T ∷ Ts) = judge_table P T >>= λ _. judge_tables P Ts

-- states see all callables, which they may not call, and have no locals or parameters
unfoldable pub state_scope : Program → Scope
state_scope P = record { program = P; reach = length P.callables; parameters = []; locals = []; body = in_state }

-- a state leads only to later ones
unfoldable pub later_state : Program → ℕ → ℕ → Option ParserState
later_state P n m = only_if (ltb n m) (get_elem? P.states m)

unfoldable pub judge_later : Program → ℕ → Numeral → Res (Unit {0})
judge_later P n s = named s.at (later_state P n s.number) >>= λ _. ok tt

-- a transition: its states in file order, its expression, then itself: bits as a key, and values that fit
unfoldable pub judge_pairs : Program → ℕ → List Pair → Res (Unit {0})
judge_pairs P n [] = ok tt
judge_pairs P n (p ∷ ps) = judge_later P n p.state >>= λ _. judge_pairs P n ps

unfoldable pub values_fit : ℕ → List Pair → Res (Unit {0})
values_fit width [] = ok tt
values_fit width (p ∷ ps) = need 7 p.value.at (fits_width width p.value.number) >>= λ _. values_fit width ps

unfoldable pub judge_transition : Program → ℕ → Transition → Res (Unit {0})
judge_transition P n no_transition = ok tt
judge_transition P n accept = ok tt
judge_transition P n (reject e) = ok tt
judge_transition P n (lead_to s) = judge_later P n s
judge_transition P n (select at e ps) = do
  names ← judge_pairs P n ps
  t ← judge_expr (state_scope P) e
  width ← width_at (suc at) t
  values_fit width ps

-- state number n: its statement, then its transition
unfoldable pub judge_state : Program → ℕ → ParserState → Res (Unit {0})
judge_state P n s = judge_stmt (state_scope P) s.body >>= λ _. judge_transition P n s.transition

unfoldable pub judge_states : Program → ℕ → List ParserState → Res (Unit {0})
judge_states P n [] = ok tt
judge_states P n (s ∷ ss) = judge_state P n s >>= λ _. judge_states P (suc n) ss

-- the program, in file order
unfoldable pub judge_program : Program → Res (Unit {0})
judge_program P = do
  globals ← judge_globals P P.globals
  callables ← judge_callables P 0 P.callables
  tables ← judge_tables P P.tables
  states ← judge_states P 0 P.states
  judge_stmt (apply_scope P) P.body
