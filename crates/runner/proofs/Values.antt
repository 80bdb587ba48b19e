-- A call as an expression and as a statement: its callable is found, it runs, and its ending is looked at.
use Rattle.program.specs.declared.Scope as coded
use mathlib.Core.Bool.{true, false}
use mathlib.Core.Option.{Option, some}
use mathlib.Core.Path.{◌≡◌, refl, ◌∙◌}
use mathlib.Core.List.{List}
use Prim.Native.Nat.{ℕ, ◌+◌, ◌*◌, ◌<◌}
use native.Mathlib.Omega.{arith}
use Rattle.rules.specs.Syntax.{Ty, Value, Expr, call_expr, Args, Stmt, call_stmt, Callable}
use Rattle.rules.specs.Form.{callable_below, Body, in_function, in_action, in_apply, in_state, may_call, is_state, Scope}
use Rattle.rules.specs.Lists.{Entry}
use Rattle.rules.specs.Running.{State, Ending, onward, returned, returned_value, exited, rejected, M, ◌>>=◌, pure, tick, must, or_stuck, value_of, after_call, run_expr, run_call, run_stmt}
use Rattle.program.specs.Stands.{StandsExpr, StandsStmt}
use Rattle.program.proofs.Views.{expr-begins, CallView, ExprView, expr-view, stmt-begins, CallStmtView, StmtView, stmt-view}
use Rattle.values.specs.declared.Value as values
use Rattle.steps.specs.declared.Ended.{Ended}
use Rattle.steps.specs.Outcomes.{Goes, counter_of, Ran, Gave, Ends, AsksCount, Counts}
use Rattle.steps.specs.Calls.{AfterCall, Returns}
use Rattle.steps.proofs.Going.{Begun, Known, then-goes, some-then-goes, must-then-goes, some-goes, some_is, some-then-is, must-then-is, then-assoc, ran-here, ran_then}
use Rattle.runner.specs.Runs.{calls_of, expr_in, args_in, call_in, stmt_in, Stage}
use Rattle.runner.specs.Claims.{RunsExpr, AsksValue, CallAt, AsksCall, RunsCall, RunsStmt, AsksTagged}
use Rattle.runner.proofs.Rank.{rank, rank-lower}
use Rattle.runner.proofs.Stages.{count-asks, stage-counted, going-counted, ran-counted, going-rest}

-- an ending with a value
value-of : (ending : Ending) (v : Value) → value_of ending ≡ some v → ending ≡ returned_value v
unfolding value_of
value-of onward v e = let z : ◌≡◌ {A = ℕ} 0 1 = cc in absurd (omega arith)
value-of returned v e = let z : ◌≡◌ {A = ℕ} 0 1 = cc in absurd (omega arith)
value-of (returned_value u) v e = cc
value-of exited v e = let z : ◌≡◌ {A = ℕ} 0 1 = cc in absurd (omega arith)
value-of (rejected error) v e = let z : ◌≡◌ {A = ℕ} 0 1 = cc in absurd (omega arith)

-- no call stands in a state
no-state : (b : Body) (returns : Option Ty) → may_call b returns ≡ true → is_state b ≡ false
unfolding may_call is_state
no-state (in_function t) returns e = refl
no-state in_action returns e = refl
no-state in_apply returns e = refl
no-state in_state returns e = let z : ◌≡◌ {A = ℕ} 0 1 = cc in absurd (omega arith)

-- what is asked before a call's arguments are worked out
module _ (Γ : Scope) (used : ℕ) (f : ℕ) (xs : Args) where
  abbrev callee : Option Callable
  callee = callable_below Γ.program Γ.reach f

  abbrev valued : Callable → M State Value
  valued c = call_in Γ used f xs c.parameters >>= λ ending. or_stuck (value_of ending)

  abbrev dropped : Callable → M State Ending
  dropped c = call_in Γ used f xs c.parameters >>= λ ending. pure (after_call ending)

  call-joined : {A : Type 0} (c : Callable) (k : Ending → M State A) (s : State)
      → (args_in Γ used xs c.parameters >>= λ ns. run_call Γ used (calls_of Γ) f xs c.parameters ns >>= k) s
      ≡ (call_in Γ used f xs c.parameters >>= k) s
  unfolding call_in
  call-joined c k s = then-assoc (args_in Γ used xs c.parameters)
      (λ ns. run_call Γ used (calls_of Γ) f xs c.parameters ns) k s

  abbrev as_expr : M State Value
  as_expr = or_stuck callee >>= λ c. or_stuck c.returns >>= λ t. must (may_call Γ.body c.returns) >>= λ _.
      args_in Γ used xs c.parameters >>= λ ns. run_call Γ used (calls_of Γ) f xs c.parameters ns >>= λ ending.
      or_stuck (value_of ending)

  abbrev as_stmt : M State Ending
  as_stmt = or_stuck callee >>= λ c. must (may_call Γ.body c.returns) >>= λ _.
      args_in Γ used xs c.parameters >>= λ ns. run_call Γ used (calls_of Γ) f xs c.parameters ns >>= λ ending.
      pure (after_call ending)

  expr-is : (at : ℕ) (s : State) → expr_in Γ used (call_expr at f xs) s ≡ tick as_expr s
  unfolding expr_in args_in run_expr
  expr-is at s = refl

  stmt-is : (at : ℕ) (es : List Entry) (s : State) → stmt_in Γ used es (call_stmt at f xs) s ≡ tick as_stmt s
  unfolding stmt_in args_in run_stmt
  stmt-is at es s = refl

  -- the callable that is found, and the call from there on
  pub record Valued (s : State) (counted : ℕ) : Type 0 where
    pub found : Callable
    pub is : callee ≡ some found
    pub outside : is_state Γ.body ≡ false
    pub same : as_expr s ≡ valued found s
    pub going : Begun counted (call_in Γ used f xs found.parameters) (λ ending. or_stuck (value_of ending)) s

  abbrev called : Callable → M State Value
  called c = args_in Γ used xs c.parameters >>= λ ns. run_call Γ used (calls_of Γ) f xs c.parameters ns >>= λ ending.
      or_stuck (value_of ending)

  valued-at : (s : State) (counted : ℕ) → Goes counted (as_expr s) → Valued s counted
  valued-at s counted g =
      let c = some-then-goes callee (λ c. or_stuck c.returns >>= λ t. must (may_call Γ.body c.returns) >>= λ _.
      called c) s g in
      let t = some-then-goes c.member.returns (λ t. must (may_call Γ.body c.member.returns) >>= λ _.
      called c.member) s c.rest in
      let m = must-then-goes (may_call Γ.body c.member.returns) (λ _. called c.member) s t.rest in
      let joined = call-joined c.member (λ ending. or_stuck (value_of ending)) s in
      record {
        found = c.member;
        is = c.is;
        outside = no-state Γ.body c.member.returns m.0;
        same = some-then-is callee _ s c.is ∙ (some-then-is c.member.returns _ s t.is
            ∙ (must-then-is (may_call Γ.body c.member.returns) _ s m.0 ∙ joined));
        going = then-goes _ _ s (rw joined at m.1);
      }

  pub record Dropped (s : State) (counted : ℕ) : Type 0 where
    pub found : Callable
    pub is : callee ≡ some found
    pub outside : is_state Γ.body ≡ false
    pub same : as_stmt s ≡ dropped found s
    pub going : Begun counted (call_in Γ used f xs found.parameters) (λ ending. pure (after_call ending)) s

  dropped-at : (s : State) (counted : ℕ) → Goes counted (as_stmt s) → Dropped s counted
  dropped-at s counted g =
      let c = some-then-goes callee (λ c. must (may_call Γ.body c.returns) >>= λ _.
      args_in Γ used xs c.parameters >>= λ ns.
      run_call Γ used (calls_of Γ) f xs c.parameters ns >>= λ ending. pure (after_call ending)) s g in
      let t = must-then-goes (may_call Γ.body c.member.returns) (λ _. args_in Γ used xs c.member.parameters >>= λ ns.
      run_call Γ used (calls_of Γ) f xs c.member.parameters ns >>= λ ending. pure (after_call ending)) s c.rest in
      let joined = call-joined c.member (λ ending. pure (after_call ending)) s in
      record {
        found = c.member;
        is = c.is;
        outside = no-state Γ.body c.member.returns t.0;
        same = some-then-is callee _ s c.is
            ∙ (must-then-is (may_call Γ.body c.member.returns) _ s t.0 ∙ joined);
        going = then-goes _ _ s (rw joined at t.1);
      }

-- its step
module _ {nums ends : List ℕ} {depth at : ℕ} (Γ : Scope) (used : ℕ) (es : List Entry) (s : State) where
  value-is : {e : Expr} (v : CallView nums ends depth at e)
      → expr_in Γ used e s ≡ tick (as_expr Γ used v.callable v.arguments) s
  value-is v = rw v.same (expr-is Γ used v.callable v.arguments at s)

  value-ticks : {e : Expr} {counted : ℕ} (v : CallView nums ends depth at e) → Goes counted (expr_in Γ used e s)
      → Goes counted (tick (as_expr Γ used v.callable v.arguments) s)
  value-ticks v g = rw (value-is v) at g

  call-is : {x : Stmt} (v : CallStmtView nums ends depth at x)
      → stmt_in Γ used es x s ≡ tick (as_stmt Γ used v.callable v.arguments) s
  call-is v = rw v.same (stmt-is Γ used v.callable v.arguments at es s)

  call-ticks : {x : Stmt} {counted : ℕ} (v : CallStmtView nums ends depth at x) → Goes counted (stmt_in Γ used es x s)
      → Goes counted (tick (as_stmt Γ used v.callable v.arguments) s)
  call-ticks v g = rw (call-is v) at g

-- at any stage, as an expression
module _ {nums directory ends : List ℕ} {scope : coded.Scope} {slots slots₁ frame : List ℕ} {depth at : ℕ} {Γ : Scope}
    {used : ℕ} {es : List Entry} {s : State} {e : Expr} (v : CallView nums ends depth at e)
    (w : StandsExpr nums ends depth at e)
    (st : Stage nums directory ends scope slots frame Γ used es s) (c : Counts slots slots₁)
    (g : Goes (counter_of slots) (expr_in Γ used e s)) where
  value_found : Valued Γ used v.callable v.arguments s (counter_of slots₁)
  value_found = valued-at Γ used v.callable v.arguments s (counter_of slots₁) (going-counted st _ c (value-ticks Γ used es s v g))

  value-at : CallAt nums ends depth at Γ v.callable v.arguments value_found.found
  value-at = record {
    levels = (expr-begins w).levels;
    holds = v.holds;
    count = v.count;
    stand = v.stand;
    is = value_found.is;
    outside = value_found.outside;
  }

  value-ran : {slots₂ frame₂ : List ℕ} {ended : Ended} {ty number : ℕ}
      → Ran nums directory ends scope slots₁ slots₂ frame frame₂ Γ
      (call_in Γ used v.callable v.arguments value_found.found.parameters s) (Ends ended)
      → Returns ended ty number
      → Ran nums directory ends scope slots slots₂ frame frame₂ Γ (expr_in Γ used e s) (Gave ty number)
  value-ran {ended = ended} h r =
      let k : Known (value_of h.answer) = some-goes (value_of h.answer) h.state
      (going-rest (stage-counted st c) _ (λ ending. or_stuck (value_of ending)) value_found.going h) in
      let ends : Ends ended (returned_value k.member) = value-ends h.answer k.member k.is h.answers in
      rw (value-is Γ used es s v) (ran-counted st _ c (rw value_found.same (ran_then _ (λ ending. or_stuck (value_of ending)) s h
      (ran-here h.state k.member h.scene (some_is (value_of h.answer) h.state k.is)
      (r.is k.member ends)))))
    where
      value-ends : (ending : Ending) (x : Value) → value_of ending ≡ some x → Ends ended ending
          → Ends ended (returned_value x)
      value-ends ending x q y = rw (value-of ending x q) at y

module _ (nums directory ends : List ℕ) (scope : coded.Scope) (slots frame : List ℕ) (depth at : ℕ)
    (a : AsksValue nums directory ends scope slots frame depth at) where
  view-at : (e : Expr) → StandsExpr nums ends depth at e → CallView nums ends depth at e
  unfolding ExprView
  view-at e w = rw a.tagged at (expr-view w)

  view : CallView nums ends depth at a.asks.expr
  view = view-at a.asks.expr a.asks.stands

  pub value-count : AsksCount slots
  value-count = count-asks a.asks.stage _
      (value-ticks a.asks.scope_of a.asks.used a.asks.entry_list a.asks.state view a.asks.going)

  pub value-call : (slots₁ : List ℕ) → Counts slots slots₁
      → AsksCall nums directory ends scope slots₁ frame depth at
  value-call slots₁ c =
      let v = value_found view a.asks.stands a.asks.stage c a.asks.going in
      record {
        scope_of = a.asks.scope_of;
        used = a.asks.used;
        entry_list = a.asks.entry_list;
        state = a.asks.state;
        callable = view.callable;
        args = view.arguments;
        found = v.found;
        stage = stage-counted a.asks.stage c;
        call = value-at view a.asks.stands a.asks.stage c a.asks.going;
        deep = a.asks.deep;
        going = v.going.first;
      }

  pub value-runs : (slots₁ slots₂ frame₂ : List ℕ) (ended : Ended) (r : values.Value) → Counts slots slots₁
      → RunsCall nums directory ends scope slots₁ slots₂ frame frame₂ depth at ended
      → Returns ended r.ty r.number
      → RunsExpr nums directory ends scope slots slots₂ frame frame₂ depth at r
  value-runs slots₁ slots₂ frame₂ ended r c q y = record {
    runs = λ Γ used es s e st w g.
        let v = view-at e w in
        let k = value_found v w st c g in
        value-ran v w st c g (q.runs Γ used es s v.callable v.arguments k.found (stage-counted st c)
        (value-at v w st c g) k.going.first) y;
  }

pub value-fall : (scope : coded.Scope) (depth t : ℕ) → rank (scope.reach) (32 * depth + 19) ≡ t
    → rank (scope.reach) (32 * depth + 18) < t
value-fall scope depth t e = rank-lower t (scope.reach) (32 * depth + 19) (32 * depth + 18) e (omega arith)

pub ruleset value_runs = (value-count, value-call, value-runs, value-fall)

-- as a statement
module _ {nums directory ends : List ℕ} {scope : coded.Scope} {slots slots₁ frame : List ℕ} {depth at : ℕ} {Γ : Scope}
    {used : ℕ} {es : List Entry} {s : State} {x : Stmt} (v : CallStmtView nums ends depth at x)
    (w : StandsStmt nums ends depth at x)
    (st : Stage nums directory ends scope slots frame Γ used es s) (c : Counts slots slots₁)
    (g : Goes (counter_of slots) (stmt_in Γ used es x s)) where
  call-found : Dropped Γ used v.callable v.arguments s (counter_of slots₁)
  call-found = dropped-at Γ used v.callable v.arguments s (counter_of slots₁) (going-counted st _ c (call-ticks Γ used es s v g))

  call_at : CallAt nums ends depth at Γ v.callable v.arguments call-found.found
  call_at = record {
    levels = (stmt-begins w).levels;
    holds = v.holds;
    count = v.count;
    stand = v.stand;
    is = call-found.is;
    outside = call-found.outside;
  }

  call-ran : {slots₂ frame₂ : List ℕ} {ended r : Ended}
      → Ran nums directory ends scope slots₁ slots₂ frame frame₂ Γ
      (call_in Γ used v.callable v.arguments call-found.found.parameters s) (Ends ended)
      → AfterCall ended r
      → Ran nums directory ends scope slots slots₂ frame frame₂ Γ (stmt_in Γ used es x s) (Ends r)
  unfolding pure
  call-ran h r =
      rw (call-is Γ used es s v) (ran-counted st _ c (rw call-found.same (ran_then _ (λ ending. pure (after_call ending)) s h
      (ran-here h.state (after_call h.answer) h.scene refl (r.goes_on h.answer h.answers)))))

module _ (nums directory ends : List ℕ) (scope : coded.Scope) (slots frame : List ℕ) (depth at : ℕ)
    (a : AsksTagged 4 nums directory ends scope slots frame depth at) where
  stmt-at : (x : Stmt) → StandsStmt nums ends depth at x → CallStmtView nums ends depth at x
  unfolding StmtView
  stmt-at x w = rw a.tagged at (stmt-view w)

  this : CallStmtView nums ends depth at a.asks.stmt
  this = stmt-at a.asks.stmt a.asks.stands

  pub call-stmt : (slots₁ : List ℕ) → Counts slots slots₁
      → AsksCall nums directory ends scope slots₁ frame depth at
  call-stmt slots₁ c =
      let v = call-found this a.asks.stands a.asks.stage c a.asks.going in
      record {
        scope_of = a.asks.scope_of;
        used = a.asks.used;
        entry_list = a.asks.entry_list;
        state = a.asks.state;
        callable = this.callable;
        args = this.arguments;
        found = v.found;
        stage = stage-counted a.asks.stage c;
        call = call_at this a.asks.stands a.asks.stage c a.asks.going;
        deep = a.asks.deep;
        going = v.going.first;
      }

  pub call-stmt-runs : (slots₁ slots₂ frame₂ : List ℕ) (ended r : Ended) → Counts slots slots₁
      → RunsCall nums directory ends scope slots₁ slots₂ frame frame₂ depth at ended
      → AfterCall ended r
      → RunsStmt nums directory ends scope slots slots₂ frame frame₂ depth at r
  call-stmt-runs slots₁ slots₂ frame₂ ended r c q y = record {
    runs = λ Γ used es s x st w g.
        let v = stmt-at x w in
        let k = call-found v w st c g in
        call-ran v w st c g (q.runs Γ used es s v.callable v.arguments k.found (stage-counted st c)
        (call_at v w st c g) k.going.first) y;
  }

pub call-fall : (scope : coded.Scope) (depth t : ℕ) → rank (scope.reach) (2000 + 32 * depth + 19) ≡ t
    → rank (scope.reach) (32 * depth + 18) < t
call-fall scope depth t e = rank-lower t (scope.reach) (2000 + 32 * depth + 19) (32 * depth + 18) e (omega arith)

pub ruleset call_stmt_runs = (call-stmt, call-stmt-runs, call-fall)
