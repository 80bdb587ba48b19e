-- Soundness of bodies: what is well formed runs, within its ceiling, and keeps every parameter, local and global within its type.
use mathlib.Core.Path.{◌≡◌, refl, sym, ◌∙◌}
use mathlib.Core.Bool.{Bool, true, false, not, ◌&&◌, ◌||◌, false≢true}
use mathlib.Core.Option.{Option, none, some}
use Prim.Native.Nat.{ℕ, zero, suc, ◌+◌, ◌≤◌, max}
use native.Mathlib.Omega.{arith}
use mathlib.Core.List.{List, [], ◌∷◌, map}
use lib.Dec.{leb}
use lib.ListN.{get_elem?, length}
use Rattle.rules.specs.Words.{slice_fits, join_fits}
use Rattle.rules.specs.Syntax.{Ty, bool, bits, Value, value, Direction, by_none, by_in, by_out, by_inout, Operator, arithmetic, order, shift, equality, logic, Logic, both, either, Place}
use Rattle.rules.specs.Syntax.{Expr, bool_literal, bits_literal, read_of, valid_of, negation, complement, binary, cast, slice, concatenation, call_expr, Args, no_args, arg}
use Rattle.rules.specs.Syntax.{Stmt, empty, assign, if_else, block, call_stmt, apply, return_value, return, exit, set_valid, set_invalid, extract, verify, Stmts, no_stmts, stmt}
use Rattle.rules.specs.Syntax.{Parameter, Callable, Program, place_in}
use Rattle.rules.specs.Form.{Res, ok, ◌>>=◌, named, need, only_if, same_ty, fits, a_header, global_at, callable_below, wants_place, goes_in, comes_back, Body, in_function, in_action, in_apply, in_state, Scope, writable, writable_in}
use Rattle.rules.specs.Form.{judge_place, judge_header_at, judge_operator, Given, types_agree, places_agree, judge_given, function_ty, may_call, judge_expr, judge_args, judge_returned, is_apply, is_function, is_state, may_leave, judge_global, judge_extracted, judge_stmt, judge_stmts, returns_on, some_returns, body_of, scope_of, judge_callable}
use Rattle.rules.specs.Ceiling.{ceiling_expr, ceiling_args, ceiling_stmt, ceiling_stmts, no_table}
use Rattle.rules.specs.Lists.{Cell}
use Rattle.rules.specs.Running.{State, Ending, onward, returned, returned_value, exited, rejected, Seen, Out, full, M, tick, or_stuck, must, nowhere, declared, read_at, write_at, change_header, valid_at, valid_in, change_store, make_valid, make_invalid, short_packet, fields_from, bits_of_bytes, fill_header, bytes_in, take_header, extract_into, extract_at}
use Rattle.rules.specs.Running.{choose, logic_with, binary_with, and_then_run, value_of, after_call, body_ended, Calls, enter, on_store, declared_as, out_place, take_in, go_in, write_back, in_turn, come_back, after_body, run_call, run_expr, run_args, returned_from, leave_by, run_stmt, run_stmts, left, leave, fresh, run_body}
use Rattle.rules.specs.Running as Running
use Rattle.rules.proofs.Predicates.{and_both, All2, nil, cons, IfOk, is_ok, is_fault, IfSome, if_none, if_some, SomeOf, is_some, ok-then, ok-map, ok-self, ok-and, ok-found, ok-need, from-ok, some_then, from_some}
use Rattle.rules.proofs.Predicates.{at_most, Good, good, is_full, Runs, runs_then, runs-tick, runs-pure, runs-some, runs-must, runs-gets, runs-puts, runs_map, runs-le, runs-holds}
use Rattle.rules.proofs.Fits.{Fit, HasTy, has, FitParameter, CellFits, valid_fits, invalid_fits, StoreFits, StateFits, same_ty-true, same_ty-refl, ok-type, ok-bits, zero-fits, number-of, truth-has, make-valid, make-invalid, fill-header, store-look, store-change, with-store, with-packet, held_at, put-at, declared-ok, header_at, whole-at}
use Rattle.rules.proofs.Fits.{arithmetic-ok, order-ok, shift-ok, equality-ok, not-ok, complement-ok, cast_ok, slice-ok, concatenation-ok, bool_ok}

-- how a body may end: `must` says that it has to return a value
pub data EndOk : Body → Bool → Ending → Type 0 where
  ok_onward : {b : Body} → EndOk b false onward
  ok_value : {t : Ty} {must : Bool} {v : Value} → HasTy t v → EndOk (in_function t) must (returned_value v)
  ok_end : {b : Body} {must : Bool} → is_function b ≡ false → EndOk b must onward
  ok_return : {b : Body} {must : Bool} → may_leave b ≡ true → EndOk b must returned
  ok_exit : {b : Body} {must : Bool} → may_leave b ≡ true → EndOk b must exited
  ok_reject : {b : Body} {must : Bool} {e : ℕ} → is_state b ≡ true → EndOk b must (rejected e)

pub end-weak : {b : Body} {m : Bool} {e : Ending} → EndOk b m e → EndOk b false e
end-weak ok_onward = ok_onward
end-weak (ok_value h) = ok_value h
end-weak (ok_end q) = ok_end q
end-weak (ok_return q) = ok_return q
end-weak (ok_exit q) = ok_exit q
end-weak (ok_reject q) = ok_reject q

end-left : {b : Body} {m : Bool} (k : Bool) {e : Ending} → EndOk b m e → EndOk b (m && k) e
end-left k ok_onward = ok_onward
end-left k (ok_value h) = ok_value h
end-left k (ok_end q) = ok_end q
end-left k (ok_return q) = ok_return q
end-left k (ok_exit q) = ok_exit q
end-left k (ok_reject q) = ok_reject q

end-right : {b : Body} (m : Bool) {k : Bool} {e : Ending} → EndOk b k e → EndOk b (m && k) e
end-right true h = h
end-right false h = end-weak h

-- where no value has to be returned, none has to be
end-any : {b : Body} {m : Bool} (k : Bool) {e : Ending} → is_function b ≡ false → EndOk b m e → EndOk b k e
end-any k q ok_onward = ok_end q
end-any k q (ok_value h) = ok_value h
end-any k q (ok_end p) = ok_end p
end-any k q (ok_return p) = ok_return p
end-any k q (ok_exit p) = ok_exit p
end-any k q (ok_reject p) = ok_reject p

module _ {S : Type 0} {F : S → Type 0} where
  choose-ok : {A : Type 0} {R : A → Type 0} {c d : ℕ} {m n : M S A} {v : Value} → HasTy bool v → Runs ◌≤◌ F R c m
      → Runs ◌≤◌ F R d n → Runs ◌≤◌ F R (max c d) (choose v m n)
  unfolding choose
  choose-ok {c} {d} (has {n = zero} e) h k = runs-le (omega arith) k
  choose-ok {c} {d} (has {n = suc n} e) h k = runs-le (omega arith) h

  logic-ok : {c : ℕ} {m : M S Value} {v : Value} (o : Logic) → HasTy bool v → Runs ◌≤◌ F (HasTy bool) c m
      → Runs ◌≤◌ F (HasTy bool) c (logic_with o v m)
  unfolding logic_with
  logic-ok both h k = runs-le (omega arith) (choose-ok h k (runs-pure at_most _ (truth-has false)))
  logic-ok either h k = runs-le (omega arith) (choose-ok h (runs-pure at_most _ (truth-has true)) k)

  binary-ok : {c d : ℕ} {a b : M S Value} (at : ℕ) (o : Operator) (t u : Ty) → Runs ◌≤◌ F (HasTy t) c a
      → Runs ◌≤◌ F (HasTy u) d b
      → IfOk (λ r. Runs ◌≤◌ F (HasTy r) (c + d) (binary_with o a b)) (judge_operator at o t u)
  unfolding judge_operator binary_with
  binary-ok at (arithmetic o) t u h k = ok-then (ok-bits at t) λ w e. ok-then (ok-type at t u) λ _ q.
      is_ok (runs-le (omega arith) (runs_then at_most h λ v hv. runs_then at_most k λ x hx.
      runs-some at_most (arithmetic-ok o (rw e at hv) (rw (← q, e) at hx))))
  binary-ok at (order o) t u h k = ok-then (ok-bits at t) λ w e. ok-then (ok-type at t u) λ _ q.
      is_ok (runs-le (omega arith) (runs_then at_most h λ v hv. runs_then at_most k λ x hx.
      runs-some at_most (order-ok o (rw e at hv) (rw (← q, e) at hx))))
  binary-ok at (shift o) t u h k = ok-then (ok-bits at t) λ w e. ok-then (ok-bits at u) λ z q.
      is_ok (runs-le (omega arith) (runs_then at_most h λ v hv. runs_then at_most k λ x hx.
      runs-some at_most (shift-ok o (rw e at hv) (rw q at hx))))
  binary-ok at (equality o) t u h k = ok-then (ok-type at t u) λ _ q.
      is_ok (runs-le (omega arith) (runs_then at_most h λ v hv. runs_then at_most k λ x hx.
      runs-some at_most (equality-ok o hv (rw (← q) at hx))))
  binary-ok at (logic o) t u h k = ok-then (ok-type at bool t) λ _ e. ok-then (ok-type at bool u) λ _ q.
      is_ok (runs-le (omega arith) (runs_then at_most h λ v hv. logic-ok o (rw (← e) at hv) (runs_then at_most k λ x hx.
      runs-some at_most (bool_ok (rw (← q) at hx)))))

  pub and-then-ok : {b : Body} {m k : Bool} {c : ℕ} {n : M S Ending} {e : Ending} → EndOk b m e
      → Runs ◌≤◌ F (EndOk b k) c n → Runs ◌≤◌ F (EndOk b (m || k)) c (and_then_run e n)
  unfolding and_then_run
  and-then-ok ok_onward h = h
  and-then-ok (ok_value v) h = runs-le (omega arith) (runs-pure at_most _ (ok_value v))
  and-then-ok (ok_end q) h = runs_map h λ e. end-any _ q
  and-then-ok (ok_return q) h = runs-le (omega arith) (runs-pure at_most _ (ok_return q))
  and-then-ok (ok_exit q) h = runs-le (omega arith) (runs-pure at_most _ (ok_exit q))
  and-then-ok (ok_reject q) h = runs-le (omega arith) (runs-pure at_most _ (ok_reject q))

  leave-ok : (at : ℕ) (b : Body) (e : Ending) → (may_leave b ≡ true → EndOk b false e) → IfOk (λ _.
      Runs ◌≤◌ F (EndOk b false) 0 (leave_by b e)) (need 8 at (may_leave b))
  unfolding leave_by
  leave-ok at b e h = ok-map (ok-need 8 at (may_leave b)) λ _ q.
      runs_then at_most (runs-must at_most _ q) λ _ _. runs-pure at_most e (h q)

literal-ok : {F : State → Type 0} (at : ℕ) (t : Ty) (n : ℕ) → IfOk (λ u.
    Runs ◌≤◌ F (HasTy u) 1 (tick (or_stuck (only_if (fits t n) (some (value t n)))))) (need 7 at (fits t n) >>= λ _.
    ok t)
unfolding only_if
literal-ok at t n = ok-then (ok-need 7 at (fits t n)) λ _ e.
    is_ok (rw e (runs-tick at_most (runs-some at_most (is_some (has e)))))

-- what the meaning of calls below `reach` gives: each callable there runs on numbers that fit its parameters
abbrev pub CallResult : Callable → Ending × List ℕ → Type 0
CallResult c r = EndOk (body_of c.returns) true r.0 × All2 FitParameter c.parameters r.1

abbrev pub CallOk : Program → Calls → ℕ → ℕ → Callable → Type 0
CallOk P calls f ceiling c = (used : ℕ) (ns : List ℕ) → All2 FitParameter c.parameters ns
    → Runs ◌≤◌ (StoreFits P) (CallResult c) ceiling (calls used f ns)

abbrev pub CallsOk : Program → ℕ → Calls → (ℕ → ℕ) → Type 0
CallsOk P reach calls callee = (f : ℕ) → IfSome (CallOk P calls f (callee f)) (callable_below P reach f)

value-ok : {t : Ty} {e : Ending} → EndOk (in_function t) true e → SomeOf (HasTy t) (value_of e)
unfolding value_of is_function is_state may_leave
value-ok (ok_value h) = is_some h
value-ok (ok_end q) = absurd (false≢true (sym q))
value-ok (ok_return q) = absurd (false≢true q)
value-ok (ok_exit q) = absurd (false≢true q)
value-ok (ok_reject q) = absurd (false≢true q)

may-call : (b : Body) (r : Option Ty) → may_call b r ≡ true → may_leave (body_of r) ≡ true → may_leave b ≡ true
unfolding may_call body_of is_function is_state may_leave
may-call (in_function t) none e q = absurd (false≢true e)
may-call (in_function t) (some u) e q = absurd (false≢true q)
may-call in_action r e q = refl
may-call in_apply r e q = refl
may-call in_state r e q = absurd (false≢true e)

-- a callable's body is no state
never-state : (r : Option Ty) → is_state (body_of r) ≡ true → ⊥
unfolding body_of is_state
never-state none e = false≢true e
never-state (some t) e = false≢true e

pub after-call : (b : Body) (r : Option Ty) {e : Ending} → EndOk (body_of r) true e → (may_leave (body_of r) ≡ true
    → may_leave b ≡ true) → EndOk b false (after_call e)
unfolding after_call
after-call b r h k = go h k (never-state r)
  where
    go : {called : Body} {e : Ending} → EndOk called true e → (may_leave called ≡ true → may_leave b ≡ true)
        → (is_state called ≡ true → ⊥) → EndOk b false (after_call e)
    go (ok_value h) k n = ok_onward
    go (ok_end q) k n = ok_onward
    go (ok_return q) k n = ok_onward
    go (ok_exit q) k n = ok_exit (k q)
    go (ok_reject q) k n = absurd (n q)

function-body : {r : Option Ty} {t : Ty} {e : Ending} → r ≡ some t → EndOk (body_of r) true e
    → EndOk (in_function t) true e
unfolding body_of
function-body q h = rw q at h

function-ok : (at : ℕ) (r : Option Ty) → IfOk (λ t. r ≡ some t) (function_ty at r)
unfolding function_ty
function-ok at none = is_fault
function-ok at (some t) = is_ok refl

returned-ok : (at : ℕ) (b : Body) (u : Ty) → IfOk (λ _. (v : Value) → HasTy u v
    → SomeOf (EndOk b true) (returned_from b v)) (judge_returned at b u)
unfolding judge_returned returned_from
returned-ok at (in_function t) u = ok-map (ok-type at t u) λ _ e v hv. some_then (number-of (rw (← e) at hv)) λ n hn.
    is_some (ok_value (has hn))
returned-ok at in_action u = is_fault
returned-ok at in_apply u = is_fault
returned-ok at in_state u = is_fault

mark-in : {widths : List ℕ} {c : Cell} → CellFits (a_header widths) c → SomeOf (λ _. Unit {0}) (valid_in c)
unfolding valid_in
mark-in (valid_fits h) = is_some tt
mark-in (invalid_fits h) = is_some tt

no_place : {p : Place} → none ≡ some p → ⊥
no_place e = let z : ◌≡◌ {A = ℕ} 0 1 = cc in omega arith

same_place : {p q : Place} → some p ≡ some q → p ≡ q
same_place e = cc

-- what comes back goes to a place
back-place : (d : Direction) → comes_back d ≡ true → wants_place d ≡ true
unfolding comes_back wants_place
back-place by_none e = e
back-place by_in e = e
back-place by_out e = refl
back-place by_inout e = refl

either_true : (a b : Bool) → (not a || b) ≡ true → a ≡ true → b ≡ true
either_true true b e q = e
either_true false b e q = absurd (false≢true q)

module _ (Γ : Scope) where
  abbrev Fine : State → Type 0
  Fine = StateFits Γ

  read_ok : (at : ℕ) (p : Place) → IfOk (λ t. Runs ◌≤◌ Fine (HasTy t) 0 (read_at Γ p)) (judge_place Γ at p)
  unfolding read_at
  read_ok at p = ok-map (declared-ok Γ at p) λ t e. rw e (runs_then at_most (runs-some at_most {R = λ u.
      u ≡ t} (is_some refl)) λ u q.
      runs_then at_most (runs-gets at_most {R = Fit t} λ s f. from_some (rw e at (held_at Γ p s f))) λ n hn.
      runs-pure at_most _ (rw q (has hn)))

  write-runs : (p : Place) (t : Ty) → declared Γ p ≡ some t → writable Γ p ≡ true → (v : Value) → HasTy t v
      → Runs ◌≤◌ Fine (λ _. Unit {0}) 0 (write_at Γ p v)
  unfolding write_at only_if
  write-runs p t e w v hv = rw (w, e) (runs_then at_most (runs-some at_most {R = λ u. u ≡ t} (is_some refl)) λ u q.
      runs_then at_most (runs-some at_most {R = Fit t} (rw q (number-of hv))) λ n hn. runs-puts at_most λ s f.
      (from_some (rw e at (put-at Γ p s f))) n hn)

  valid-ok : (at g : ℕ) → IfOk (λ _. Runs ◌≤◌ Fine (HasTy bool) 0 (valid_at Γ g)) (judge_header_at Γ at g)
  unfolding valid_at
  valid-ok at g = ok-map (header_at Γ at g) λ _ h. runs_then at_most (runs-some at_most h) λ widths e.
      runs_then at_most (runs-gets at_most λ s f. some_then (from_some (rw e at (store-look f.store-fits g))) λ c hc.
      mark-in hc) λ b _. runs-pure at_most _ (truth-has b)

  header-changes : (at g : ℕ) (f : Cell → Option Cell) → ((widths : List ℕ) (c : Cell) → CellFits (a_header widths) c
      → SomeOf (CellFits (a_header widths)) (f c))
      → IfOk (λ _. Runs ◌≤◌ Fine (λ _. Unit {0}) 0 (change_header Γ g f)) (judge_header_at Γ at g)
  unfolding change_header change_store
  header-changes at g f k = ok-map (header_at Γ at g) λ _ h. runs_then at_most (runs-some at_most h) λ widths e.
      runs-puts at_most λ s fine. some_then ((from_some (rw e at (store-change fine.store-fits g))) f
      (k widths)) λ cells hc. is_some (with-store Γ fine hc)

  -- extract: a packet that is long enough fills the header, a short one rejects
  take-ok : (g : ℕ) (widths : List ℕ) → global_at Γ.program g ≡ some (a_header widths) → (s : State) → Fine s
      → SomeOf Fine (take_header g widths s)
  unfolding take_header change_store
  take-ok g widths e s fine = some_then (some_then ((from_some (rw e at (store-change fine.store-fits g)))
      (fill_header (fields_from widths (bits_of_bytes s.packet))) λ c hc. fill-header s.packet hc) λ cells hc.
      is_some (with-store Γ fine hc)) λ t ht. is_some (with-packet Γ _ ht)

  extract-into : (g : ℕ) (widths : List ℕ) → global_at Γ.program g ≡ some (a_header widths)
      → is_state Γ.body ≡ true → Runs ◌≤◌ Fine (EndOk Γ.body false) 0 (extract_into g widths)
  unfolding extract_into Running.next Running.◌>>=◌
  extract-into g widths e q = record { run = λ s f. go s f (leb (bytes_in widths) (length s.packet)) }
    where
      go : (s : State) → Fine s → (b : Bool) → Good ◌≤◌ Fine (EndOk Γ.body false) 0 (elim b [
        | true ↦ Running.next (Running.puts (take_header g widths) s) (λ _. Running.pure onward)
        | false ↦ Running.pure (rejected short_packet) s
      ])
      go s f true = (runs_then at_most (runs-puts at_most (take-ok g widths e)) λ _ _.
          runs-pure at_most onward ok_onward).run s f
      go s f false = (runs-pure at_most (rejected short_packet) (ok_reject q)).run s f

  extract-ok : (at g : ℕ) → IfOk (λ _. is_state Γ.body ≡ true → Runs ◌≤◌ Fine (EndOk Γ.body false) 0 (extract_at Γ g))
      (judge_global Γ at g (judge_extracted at))
  unfolding extract_at
  extract-ok at g = ok-map (whole-at Γ at g) λ _ h q. runs_then at_most (runs-some at_most h) λ widths e.
      extract-into g widths e q

  -- what the judge says of an expression that names a place is the place's declared type
  named-place : (e : Expr) (t : Ty) → judge_expr Γ e ≡ ok t → (p : Place) → place_in e ≡ some p → declared Γ p ≡ some t
  unfolding judge_expr place_in
  named-place (bool_literal at n) t e p q = absurd (no_place q)
  named-place (bits_literal at w n) t e p q = absurd (no_place q)
  named-place (read_of at r) t e p q = rw (same_place q) at (from-ok (rw e at (declared-ok Γ at r)))
  named-place (valid_of at g) t e p q = absurd (no_place q)
  named-place (negation at a) t e p q = absurd (no_place q)
  named-place (complement at a) t e p q = absurd (no_place q)
  named-place (binary at o a b) t e p q = absurd (no_place q)
  named-place (cast at w a) t e p q = absurd (no_place q)
  named-place (slice at h l a) t e p q = absurd (no_place q)
  named-place (concatenation at a b) t e p q = absurd (no_place q)
  named-place (call_expr at f xs) t e p q = absurd (no_place q)

  -- an argument that has to be a place is one, and can be written
  out-place : (t : Ty) (place : Option Place) → writable_in Γ place ≡ true → ((p : Place) → place ≡ some p
      → declared Γ p ≡ some t) → out_place Γ t place ≡ true
  unfolding writable_in out_place declared_as
  out-place t none w h = w
  out-place t (some p) w h = rw (h p refl, w, same_ty-refl t)

  asked-place : (b : Bool) (t : Ty) (place : Option Place) → (not b || writable_in Γ place) ≡ true → ((p : Place)
      → place ≡ some p → declared Γ p ≡ some t) → (not b || out_place Γ t place) ≡ true
  asked-place true t place w h = out-place t place w h
  asked-place false t place w h = refl

  take-in : (b : Bool) (t : Ty) {c : ℕ} {run : M State Value} → Runs ◌≤◌ Fine (HasTy t) c run → 1 ≤ c
      → Runs ◌≤◌ Fine (Fit t) c (take_in b t run)
  unfolding take_in
  take-in true t h k = runs-le (omega arith) (runs_then at_most h λ v hv. runs-some at_most (number-of hv))
  take-in false t h k = runs-le k (runs-tick at_most (runs-pure at_most 0 (zero-fits t)))

  go-in : (p : Parameter) (place : Option Place) → ((q : Place) → place ≡ some q → declared Γ q ≡ some p.ty)
      → (not (wants_place p.direction) || writable_in Γ place) ≡ true
      → {c : ℕ} {run : M State Value} → Runs ◌≤◌ Fine (HasTy p.ty) c run → 1 ≤ c
      → Runs ◌≤◌ Fine (Fit p.ty) c (go_in Γ p place run)
  unfolding go_in
  go-in p place declares w h k = runs-holds _ (asked-place (wants_place p.direction) p.ty place w declares)
      (take-in (goes_in p.direction) p.ty h k)

  module _ (t : Ty) (place : Option Place) (declares : (p : Place) → place ≡ some p → declared Γ p ≡ some t) where
    write-place : (place : Option Place) → writable_in Γ place ≡ true → ((p : Place) → place ≡ some p
        → declared Γ p ≡ some t) → (n : ℕ) → Fit t n → Runs ◌≤◌ Fine (λ _. Unit {0}) 0 (write_back Γ place (value t n))
    unfolding writable_in write_back
    write-place none w h n hn = absurd (false≢true w)
    write-place (some p) w h n hn = write-runs p t (h p refl) w (value t n) (has hn)

    write-back : (d : Direction) → (not (wants_place d) || writable_in Γ place) ≡ true → comes_back d ≡ true → (n : ℕ)
        → Fit t n → Runs ◌≤◌ Fine (λ _. Unit {0}) 0 (write_back Γ place (value t n))
    write-back d w b n hn = write-place place (either_true (wants_place d) (writable_in Γ place) w
        (back-place d b)) declares n hn

  -- that writes run does not depend on their order
  both_run : {a b : M State (Unit {0})} → Runs ◌≤◌ Fine (λ _. Unit {0}) 0 a → Runs ◌≤◌ Fine (λ _. Unit {0}) 0 b
      → Runs ◌≤◌ Fine (λ _. Unit {0}) 0 (Running.◌>>=◌ a λ _. b)
  both_run h k = runs_then at_most h λ _ _. k

  in-turn : {a b : M State (Unit {0})} → Runs ◌≤◌ Fine (λ _. Unit {0}) 0 a → Runs ◌≤◌ Fine (λ _. Unit {0}) 0 b
      → Runs ◌≤◌ Fine (λ _. Unit {0}) 0 (in_turn a b)
  unfolding in_turn
  in-turn h k = search both_run

  abbrev Back : Args → List Parameter → Type 0
  Back xs ps = (ns : List ℕ) → All2 FitParameter ps ns → Runs ◌≤◌ Fine (λ _. Unit {0}) 0 (come_back Γ xs ps ns)

  back-nil : Back no_args []
  unfolding come_back
  back-nil _ nil = runs-pure at_most tt tt

  back-cons : (e : Expr) (xs : Args) (p : Parameter) (ps : List Parameter)
      → (comes_back p.direction ≡ true → (n : ℕ) → Fit p.ty n → Runs ◌≤◌ Fine (λ _.
      Unit {0}) 0 (write_back Γ (place_in e) (value p.ty n)))
      → Back xs ps → Back (arg e xs) (p ∷ ps)
  unfolding come_back
  back-cons e xs p ps h k _ (cons {b = n} {ys = ns} r rs) = go (comes_back p.direction) refl
    where
      go : (b : Bool) → comes_back p.direction ≡ b → Runs ◌≤◌ {B = Unit {0}} Fine (λ _. Unit {0}) 0 (elim b [
        | true ↦ in_turn (write_back Γ (place_in e) (value p.ty n)) (come_back Γ xs ps ns)
        | false ↦ come_back Γ xs ps ns
      ])
      go true q = in-turn (h q n r) (k ns rs)
      go false q = k ns rs

-- the meaning of calls is given: expressions and arguments
one-step : (callee : ℕ → ℕ) (e : Expr) → 1 ≤ ceiling_expr callee e
unfolding ceiling_expr
one-step callee (bool_literal at n) = omega arith
one-step callee (bits_literal at w n) = omega arith
one-step callee (read_of at p) = omega arith
one-step callee (valid_of at g) = omega arith
one-step callee (negation at a) = omega arith
one-step callee (complement at a) = omega arith
one-step callee (binary at o a b) = omega arith
one-step callee (cast at w a) = omega arith
one-step callee (slice at h l a) = omega arith
one-step callee (concatenation at a b) = omega arith
one-step callee (call_expr at f xs) = omega arith

enter-good : (Γ : Scope) {A : Type 0} {R : A → Type 0} {c : ℕ} {s : State} {o : Out (List Cell) A} → StateFits Γ s
    → Good ◌≤◌ (StoreFits Γ.program) R c o → Good ◌≤◌ (StateFits Γ) R c (enter s o)
unfolding enter
enter-good Γ f (good seen r g q) = good seen r (with-store Γ f g) q
enter-good Γ f is_full = is_full

pub on-store : (Γ : Scope) {A : Type 0} {R : A → Type 0} {c : ℕ} {m : M (List Cell) A}
    → Runs ◌≤◌ (StoreFits Γ.program) R c m → Runs ◌≤◌ (StateFits Γ) R c (on_store m)
unfolding on_store
on-store Γ h = record { run = λ s f. enter-good Γ f (h.run s.store f.store-fits) }

after-body : (Γ : Scope) {b : Body} {e : Ending} {back : M State (Unit {0})} → EndOk b true e
    → Runs ◌≤◌ (StateFits Γ) (λ _. Unit {0}) 0 back → Runs ◌≤◌ (StateFits Γ) (EndOk b true) 0 (after_body e back)
unfolding after_body
after-body Γ (ok_value v) h = runs_then at_most h λ _ _. runs-pure at_most _ (ok_value v)
after-body Γ (ok_end q) h = runs_then at_most h λ _ _. runs-pure at_most _ (ok_end q)
after-body Γ (ok_return q) h = runs_then at_most h λ _ _. runs-pure at_most _ (ok_return q)
after-body Γ (ok_exit q) h = runs-pure at_most _ (ok_exit q)
after-body Γ (ok_reject q) h = runs-pure at_most _ (ok_reject q)

-- a name that the judge and the run look up alike
look-ok : {S A B C : Type 0} {F : S → Type 0} {P : A → Type 0} {R : B → C → Type 0} {c : ℕ} {k : A → Res B} {l : A
    → M S C} (at : ℕ) {o : Option A}
    → IfSome P o → ((a : A) → P a → IfOk (λ b. Runs ◌≤◌ F (R b) c (l a)) (k a)) → IfOk (λ b.
    Runs ◌≤◌ F (R b) (0 + c) (Running.◌>>=◌ (or_stuck o) l)) (named at o >>= k)
unfolding ◌>>=◌ named
look-ok at if_none h = is_fault
look-ok at (if_some {a} p) h = ok-map (h _ p) λ b r. runs_then at_most (runs-some at_most {R = λ x.
    x ≡ a} (is_some refl)) λ x e. rw e r

module _ (Γ : Scope) (used : ℕ) (calls : Calls) (callee : ℕ
    → ℕ) (calls-ok : CallsOk Γ.program Γ.reach calls callee) where
  abbrev SafeExpr : Expr → Type 0
  SafeExpr e = IfOk (λ t. Runs ◌≤◌ (StateFits Γ) (HasTy t) (ceiling_expr callee e) (run_expr Γ used calls e))
      (judge_expr Γ e)

  -- arguments that agree with parameters run to numbers that fit them, and can be written back
  abbrev ArgsRun : Args → List Given → Type 0
  ArgsRun xs gs = (ps : List Parameter) → types_agree ps gs ≡ true → places_agree ps gs ≡ true
      → Runs ◌≤◌ (StateFits Γ) (All2 FitParameter ps) (ceiling_args callee xs)
      (run_args Γ used calls xs ps) × Back Γ xs ps

  abbrev SafeArgs : Args → Type 0
  SafeArgs xs = IfOk (ArgsRun xs) (judge_args Γ xs)

  args-nil : ArgsRun no_args []
  unfolding run_args types_agree ceiling_args
  args-nil [] e q = (runs-pure at_most _ nil, back-nil Γ)
  args-nil (p ∷ ps) e q = absurd (false≢true e)

  args_cons : (e : Expr) (xs : Args) (t : Ty) (gs : List Given) → judge_expr Γ e ≡ ok t
      → Runs ◌≤◌ (StateFits Γ) (HasTy t) (ceiling_expr callee e) (run_expr Γ used calls e)
      → ArgsRun xs gs → ArgsRun (arg e xs) (record { ty = t; writable = writable_in Γ (place_in e) } ∷ gs)
  unfolding run_args types_agree places_agree ceiling_args
  args_cons e xs t gs j h k [] a b = absurd (false≢true a)
  args_cons e xs t gs j h k (p ∷ ps) a b =
      let same = and_both (same_ty p.ty t) (types_agree ps gs) a in
      let places = and_both (not (wants_place p.direction) || writable_in Γ (place_in e)) (places_agree ps gs) b in
      let rest = k ps same.1 places.1 in
      let e≡ : t ≡ p.ty = sym (same_ty-true p.ty t same.0) in
      let declares : (q : Place) → place_in e ≡ some q → declared Γ q ≡ some p.ty = λ q x.
      rw e≡ at (named-place Γ e t j q x) in
      let runs : Runs ◌≤◌ (StateFits Γ) (HasTy p.ty) (ceiling_expr callee e) (run_expr Γ used calls e) = rw e≡ at h in (
        runs-le (omega arith) (runs_then at_most (go-in Γ p (place_in e) declares places.0 runs
            (one-step callee e)) λ n hn. runs_then at_most rest.0 λ ns hns. runs-pure at_most _ (cons hn hns)),
        back-cons Γ e xs p ps (write-back Γ p.ty (place_in e) declares p.direction places.0) rest.1,
      )

  given-ok : (at : ℕ) (ps : List Parameter) (gs : List Given) → IfOk (λ _.
      (types_agree ps gs ≡ true) × (places_agree ps gs ≡ true)) (judge_given at ps gs)
  unfolding judge_given
  given-ok at ps gs = ok-then (ok-need 7 at (types_agree ps gs)) λ _ e. ok-map (ok-need 8 at (places_agree ps gs)) λ _ q.
      (e, q)

  -- a call behind the look-up of its name, its arguments judged
  call-runs : (f : ℕ) (xs : Args) (c : Callable) {C : Type 0} {Q : C → Type 0} {fin : Ending → M State C}
      → Runs ◌≤◌ (StateFits Γ) (All2 FitParameter c.parameters) (ceiling_args callee xs) (run_args Γ used calls xs
      c.parameters) × Back Γ xs c.parameters
      → CallOk Γ.program calls f (callee f) c
      → ((e : Ending) → EndOk (body_of c.returns) true e → Runs ◌≤◌ (StateFits Γ) Q 0 (fin e))
      → Runs ◌≤◌ (StateFits Γ) Q (ceiling_args callee xs + callee f)
      (Running.◌>>=◌ (run_args Γ used calls xs c.parameters) λ ns.
      Running.◌>>=◌ (run_call Γ used calls f xs c.parameters ns) fin)
  unfolding run_call
  call-runs f xs c ha hc hf = runs-le (omega arith) (runs_then at_most ha.0 λ ns hns.
      runs_then at_most (runs_then at_most (on-store Γ (hc used ns hns)) λ r hr.
      after-body Γ hr.0 (ha.1 r.1 hr.1)) λ e he. hf e he)

  mutual
    unfolding judge_expr run_expr ceiling_expr

    pub sound-expr : (e : Expr) → SafeExpr e
    sound-expr (bool_literal at n) = literal-ok at bool n
    sound-expr (bits_literal at w n) = literal-ok at (bits w) n
    sound-expr (read_of at p) = ok-map (read_ok Γ at p) λ t h. runs-tick at_most h
    sound-expr (valid_of at g) = ok-then (valid-ok Γ at g) λ _ h. is_ok (runs-tick at_most h)
    sound-expr (negation at a) = ok-then (sound-expr a) λ t h. ok-then (ok-type at bool t) λ _ e.
        is_ok (runs-le (omega arith) (runs-tick at_most (runs_then at_most h λ v hv.
        runs-some at_most (not-ok (rw (← e) at hv)))))
    sound-expr (complement at a) = ok-then (sound-expr a) λ t h. ok-then (ok-bits at t) λ w e.
        is_ok (runs-le (omega arith) (runs-tick at_most (runs_then at_most h λ v hv.
        runs-some at_most (complement-ok (rw e at hv)))))
    sound-expr (binary at o a b) = ok-then (sound-expr a) λ t h. ok-then (sound-expr b) λ u k.
        ok-map (binary-ok at o t u h k) λ r w. runs-tick at_most w
    sound-expr (cast at w a) = ok-then (sound-expr a) λ t h. ok-then (ok-bits at t) λ z e.
        is_ok (runs-le (omega arith) (runs-tick at_most (runs_then at_most h λ v hv.
        runs-some at_most (cast_ok w (rw e at hv)))))
    sound-expr (slice at high low a) = ok-then (sound-expr a) λ t h. ok-then (ok-bits at t) λ w e.
        ok-then (ok-need 7 at (slice_fits high low w)) λ _ q.
        is_ok (runs-le (omega arith) (runs-tick at_most (runs_then at_most h λ v hv.
        runs-some at_most (slice-ok high low w q (rw e at hv)))))
    sound-expr (concatenation at a b) = ok-then (sound-expr a) λ t h. ok-then (sound-expr b) λ u k.
        ok-then (ok-bits at t) λ w e. ok-then (ok-bits at u) λ z q. ok-then (ok-need 7 at (join_fits w z)) λ _ l.
        is_ok (runs-le (omega arith) (runs-tick at_most (runs_then at_most h λ v hv. runs_then at_most k λ x hx.
        runs-some at_most (concatenation-ok l (rw e at hv) (rw q at hx)))))
    sound-expr (call_expr at f xs) = ok-map (look-ok (suc at) (calls-ok f) λ c hc. ok-then (sound-args xs) λ gs ha.
        ok-then (given-ok at c.parameters gs) λ _ q.
        ok-then (ok-need 8 at (may_call Γ.body c.returns)) λ _ m. ok-map (function-ok at c.returns) λ t e.
        runs_then at_most (runs-some at_most {R = λ _. Unit {0}} (rw e (is_some tt))) λ _ _. runs-holds _ m (
        call-runs f xs c (ha c.parameters q.0 q.1) hc λ w hw.
        runs-some at_most (value-ok (function-body e hw)))) λ t h. runs-le (omega arith) (runs-tick at_most h)

    pub sound-args : (xs : Args) → SafeArgs xs
    sound-args no_args = is_ok args-nil
    sound-args (arg e xs) = ok-then (ok-and (ok-self (judge_expr Γ e)) (sound-expr e)) λ t h.
        ok-then (sound-args xs) λ gs k. is_ok (args_cons e xs t gs h.0 h.1 k)

-- statements: `table` bounds what an apply runs, in a scope where apply stands
abbrev pub AppliesOk : Scope → (ℕ → M State Ending) → (ℕ → ℕ) → Type 0
AppliesOk Γ applied table = is_apply Γ.body ≡ true → (t : ℕ) → IfSome (λ _.
    Runs ◌≤◌ (StateFits Γ) (EndOk Γ.body false) (table t) (applied t)) (get_elem? Γ.program.tables t)

module _ (Γ : Scope) (used : ℕ) (calls : Calls) (callee : ℕ
    → ℕ) (calls-ok : CallsOk Γ.program Γ.reach calls callee)
    (applied : ℕ → M State Ending) (table : ℕ → ℕ) (applies-ok : AppliesOk Γ applied table) where
  abbrev SafeStmt : Stmt → Type 0
  SafeStmt s = IfOk (λ _. Runs ◌≤◌ (StateFits Γ) (EndOk Γ.body (returns_on s)) (ceiling_stmt callee table s)
      (run_stmt Γ used calls applied s)) (judge_stmt Γ s)

  abbrev SafeStmts : Stmts → Type 0
  SafeStmts ss = IfOk (λ _. Runs ◌≤◌ (StateFits Γ) (EndOk Γ.body (some_returns ss)) (ceiling_stmts callee table ss)
      (run_stmts Γ used calls applied ss)) (judge_stmts Γ ss)

  apply-ok : (at t : ℕ) → IfOk (λ _. Runs ◌≤◌ (StateFits Γ) (EndOk Γ.body false) (table t) (applied t)) (named
      (suc at) (get_elem? Γ.program.tables t) >>= λ _. need 8 at (is_apply Γ.body))
  apply-ok at t = ok-then (ok-found (suc at) (get_elem? Γ.program.tables t)) λ T e.
      ok-map (ok-need 8 at (is_apply Γ.body)) λ _ q. from_some (rw e at (applies-ok q t))

  mutual
    unfolding judge_stmt run_stmt ceiling_stmt returns_on

    pub sound-stmt : (s : Stmt) → SafeStmt s
    sound-stmt (empty at) = is_ok (runs-tick at_most (runs-pure at_most _ ok_onward))
    sound-stmt (assign at target p e) = ok-then (declared-ok Γ target p) λ t d.
        ok-then (sound-expr Γ used calls callee calls-ok e) λ u h. ok-then (ok-type at t u) λ _ q.
        ok-map (ok-need 8 at (writable Γ p)) λ _ w.
        runs-le (omega arith) (runs-tick at_most (runs_then at_most h λ v hv.
        runs_then at_most (write-runs Γ p t d w v (rw (← q) at hv)) λ _ _. runs-pure at_most _ ok_onward))
    sound-stmt (if_else at c a b) = ok-then (sound-expr Γ used calls callee calls-ok c) λ t h.
        ok-then (sound-stmt a) λ _ ha. ok-then (sound-stmt b) λ _ hb. ok-map (ok-type at bool t) λ _ q.
        runs-tick at_most (runs_then at_most h λ v hv. choose-ok (rw (← q) at hv) (runs_map ha λ e.
        end-left (returns_on b)) (runs_map hb λ e. end-right (returns_on a)))
    sound-stmt (block at ss) = ok-map (sound-stmts ss) λ _ h. runs-tick at_most h
    sound-stmt (call_stmt at f xs) = ok-map (look-ok (suc at) (calls-ok f) λ c hc.
        ok-then (sound-args Γ used calls callee calls-ok xs) λ gs ha.
        ok-then (given-ok Γ used calls callee calls-ok at c.parameters gs) λ _ q.
        ok-map (ok-need 8 at (may_call Γ.body c.returns)) λ _ e. runs_then at_most (runs-must at_most _ e) λ _ _.
        call-runs Γ used calls callee calls-ok f xs c (ha c.parameters q.0 q.1) hc λ w hw.
        runs-pure at_most _ (after-call Γ.body c.returns hw (may-call Γ.body c.returns e))) λ _ h.
        runs-le (omega arith) (runs-tick at_most h)
    sound-stmt (apply at t) = ok-map (apply-ok at t) λ _ h. runs-tick at_most h
    sound-stmt (return_value at e) = ok-then (sound-expr Γ used calls callee calls-ok e) λ u h.
        ok-map (returned-ok at Γ.body u) λ _ k.
        runs-le (omega arith) (runs-tick at_most (runs_then at_most h λ v hv. runs-some at_most (k v hv)))
    sound-stmt (return at) = ok-map (leave-ok at Γ.body returned ok_return) λ _ h. runs-tick at_most h
    sound-stmt (exit at) = ok-map (leave-ok at Γ.body exited ok_exit) λ _ h. runs-tick at_most h
    sound-stmt (set_valid at g) = ok-map (header-changes Γ at g make_valid λ widths c h. make-valid h) λ _ h.
        runs-le (omega arith) (runs-tick at_most (runs_then at_most h λ _ _. runs-pure at_most _ ok_onward))
    sound-stmt (set_invalid at g) = ok-map (header-changes Γ at g make_invalid λ widths c h. make-invalid h) λ _ h.
        runs-le (omega arith) (runs-tick at_most (runs_then at_most h λ _ _. runs-pure at_most _ ok_onward))
    sound-stmt (extract at g) = ok-then (extract-ok Γ at g) λ _ h. ok-map (ok-need 8 at (is_state Γ.body)) λ _ q.
        runs-tick at_most (runs-holds _ q (h q))
    sound-stmt (verify at c e) = ok-then (sound-expr Γ used calls callee calls-ok c) λ t h.
        ok-then (ok-type at bool t) λ _ w. ok-map (ok-need 8 at (is_state Γ.body)) λ _ q.
        runs-le (omega arith) (runs-tick at_most (runs-holds _ q (runs_then at_most h λ v hv.
        choose-ok (rw (← w) at hv) (runs-pure at_most _ ok_onward) (runs-pure at_most _ (ok_reject q)))))

    pub sound-stmts : (ss : Stmts) → SafeStmts ss
    sound-stmts no_stmts = is_ok (runs-pure at_most _ ok_onward)
    sound-stmts (stmt s ss) = ok-then (sound-stmt s) λ _ h. ok-map (sound-stmts ss) λ _ k. runs_then at_most h λ e he.
        and-then-ok he k

-- a callable's body, and the callables by their number
zeros-fit : (ts : List Ty) → All2 Fit ts (map (λ _. 0) ts)
zeros-fit [] = nil
zeros-fit (t ∷ ts) = cons (zero-fits t) (zeros-fit ts)

function-ends : {t : Ty} {e : Ending} → EndOk (in_function t) true e
    → SomeOf (EndOk (in_function t) true) (body_ended (some t) e)
unfolding body_ended
function-ends h = some_then (value-ok h) λ v hv. is_some (ok_value hv)

body-ends : (r : Option Ty) {e : Ending} → EndOk (body_of r) true e → SomeOf (EndOk (body_of r) true) (body_ended r e)
unfolding body_of body_ended
body-ends none h = is_some h
body-ends (some t) h = function-ends h

must-end : (r : Option Ty) (m : Bool) {e : Ending} → (not (is_function (body_of r)) || m) ≡ true → EndOk (body_of r) m e
    → EndOk (body_of r) true e
must-end r m {e} q h = go (is_function (body_of r)) refl q
  where
    go : (b : Bool) → is_function (body_of r) ≡ b → (not b || m) ≡ true → EndOk (body_of r) true e
    go true p w = rw w at h
    go false p w = end-any true p h

pub never : (r : Option Ty) → is_apply (body_of r) ≡ false
unfolding body_of is_apply
never none = refl
never (some t) = refl

fresh-fits : (P : Program) (n : ℕ) (c : Callable) (cells : List Cell) (ns : List ℕ) → StoreFits P cells
    → All2 FitParameter c.parameters ns → StateFits (scope_of P n c) (fresh c ns cells)
unfolding scope_of fresh
fresh-fits P n c cells ns hc hns = record { store-fits = hc; parameters-fit = hns; locals-fit = zeros-fit c.locals }

module _ (capacity : ℕ) (P : Program) where
  left-good : (c : Callable) {k : ℕ} {o : Option Ending} {ns : List ℕ} {cells : List Cell} (seen : Seen)
      → SomeOf (EndOk (body_of c.returns) true) o → All2 FitParameter c.parameters ns → StoreFits P cells
      → length seen ≤ k → Good ◌≤◌ (StoreFits P) (CallResult c) k (left ns cells seen o)
  unfolding left
  left-good c seen (is_some h) hns hc q = good seen (h, hns) hc q

  leave-good : (n : ℕ) (c : Callable) (m : Bool) {k : ℕ} {o : Out State Ending}
      → (not (is_function (body_of c.returns)) || m) ≡ true
      → Good ◌≤◌ (StateFits (scope_of P n c)) (EndOk (body_of c.returns) m) k o
      → Good ◌≤◌ (StoreFits P) (CallResult c) k (leave c.returns o)
  unfolding leave scope_of
  leave-good n c m w (good seen r f q) = left-good c seen (body-ends c.returns (must-end c.returns m w r))
      f.parameters-fit f.store-fits q
  leave-good n c m w is_full = is_full

  no-apply : (n : ℕ) (c : Callable) → AppliesOk (scope_of P n c) (λ t. nowhere) no_table
  unfolding scope_of
  no-apply n c e t = absurd (false≢true (sym (never c.returns) ∙ e))

  body-good : (n : ℕ) (c : Callable) (lower : Calls) (callee : ℕ → ℕ) → CallsOk P n lower callee
      → judge_stmt (scope_of P n c) c.body ≡ ok tt
      → (not (is_function (body_of c.returns)) || returns_on c.body) ≡ true → (taken : ℕ) (s : State)
      → StateFits (scope_of P n c) s
      → Good ◌≤◌ (StoreFits P) (CallResult c) (ceiling_stmt callee no_table c.body) (leave c.returns (run_stmt
      (scope_of P n c) taken lower (λ t. nowhere) c.body s))
  unfolding scope_of
  body-good n c lower callee h j w taken s f =
      leave-good n c (returns_on c.body) w ((from-ok (rw j at (sound-stmt (scope_of P n c) taken lower callee h (λ t.
      nowhere) no_table (no-apply n c) c.body))).run s f)

  pub callable-ok : (n : ℕ) (c : Callable) (lower : Calls) (callee : ℕ → ℕ) → CallsOk P n lower callee
      → IfOk (λ _. (used : ℕ) (ns : List ℕ) → All2 FitParameter c.parameters ns
      → Runs ◌≤◌ (StoreFits P) (CallResult c) (ceiling_stmt callee no_table c.body)
      (run_body capacity P n lower c used ns)) (judge_callable P n c)
  unfolding judge_callable run_body
  callable-ok n c lower callee h = ok-then (ok-self (judge_stmt (scope_of P n c) c.body)) λ _ j.
      ok-map (ok-need 8 c.at (not (is_function (body_of c.returns)) || returns_on c.body)) λ _ w used ns hns.
      record {
        run = λ cells hc. go (used + (length c.parameters + length c.locals)) (leb (used + (length
            c.parameters + length c.locals)) capacity) j w ns hns cells hc;
      }
    where
      go : (taken : ℕ) (b : Bool) {a : Unit {0}} → judge_stmt (scope_of P n c) c.body ≡ ok a
          → (not (is_function (body_of c.returns)) || returns_on c.body) ≡ true
          → (ns : List ℕ) → All2 FitParameter c.parameters ns → (cells : List Cell) → StoreFits P cells
          → Good ◌≤◌ (StoreFits P) (CallResult c) (ceiling_stmt callee no_table c.body) (elim b [
            | true ↦ leave c.returns (run_stmt (scope_of P n c) taken lower (λ t. nowhere) c.body (fresh c ns cells))
            | false ↦ full
          ])
      go taken true j w ns hns cells hc = body-good n c lower callee h j w taken _ (fresh-fits P n c cells ns hc hns)
      go taken false j w ns hns cells hc = is_full
