-- Statements: what each part asks, and what the whole then comes to.
use Rattle.program.specs.declared.Scope as coded
use mathlib.Core.Option.{Option, none, some}
use mathlib.Core.Path.{◌≡◌, refl, ◌∙◌, sym, ap}
use mathlib.Core.List.{List}
use Prim.Native.Nat.{ℕ, zero, suc, ◌+◌, ◌-◌, ◌*◌, ◌≤◌, ◌<◌, ◌^◌}
use native.Mathlib.Omega.{arith}
use lib.ListN.{length, get_or}
use Rattle.rules.specs.Numbers.{most_bytes}
use Rattle.rules.specs.Syntax.{Ty, bool, bits, Value, value, Place, Expr, Stmt, empty, assign, if_else, block, call_stmt, apply, return_value, return, exit, set_valid, set_invalid, extract, verify, Stmts}
use Rattle.rules.specs.Form.{and_look, Body, in_function, in_action, in_apply, in_state, Scope}
use Rattle.rules.specs.Ceiling.{most_steps}
use Rattle.rules.specs.Lists.{Entry}
use Rattle.rules.specs.Running.{State, Ending, onward, returned_value, M, ◌>>=◌, pure, tick, puts, or_stuck, choose, number_of, put, write_at, returned_from, run_stmt}
use Rattle.rules.proofs.Fits.{Fit}
use Rattle.program.specs.Codes.{ty_of}
use Rattle.program.specs.Stands.{StandsStmt}
use Rattle.program.proofs.Views.{expr-begins, stmt-begins, AssignView, IfView, ReturnView, StmtView, stmt-view}
use Rattle.values.specs.declared.Value as values
use Rattle.values.specs.Claims.{value_of, IsValue}
use Rattle.store.specs.Places.{NamesPlace}
use Rattle.store.specs.Changes.{Becomes, AsksWrite, Writes}
use Rattle.steps.specs.declared.Ended.{Ended}
use Rattle.steps.specs.declared.Ended.TheVariants.{Onward, ReturnedValue}
use Rattle.steps.specs.Outcomes.{Goes, counter_of, Ran, Gave, Ends, ends-onward, ends-value, AsksCount, Counts}
use Rattle.steps.specs.Singles.{single_in, AsksSingle, RunsSingle}
use Rattle.steps.proofs.Going.{Begun, not-nowhere, tick-below, then-goes, some-goes, some_is, ran-here, ran_then, ran-becomes}
use Rattle.steps.proofs.Backs.{Target, write-target, write-is, value-is}
use Rattle.runner.specs.Runs.{calls_of, applied_in, expr_in, stmt_in, stmts_in, Stage}
use Rattle.runner.specs.Forms.{SingleAt}
use Rattle.runner.specs.Claims.{AsksExpr, RunsExpr, AsksStmt, RunsStmt, AsksTagged, AsksPlain}
use Rattle.runner.proofs.Rank.{rank, rank-lower}
use Rattle.runner.proofs.Stages.{store-count, count-asks, stage-counted, going-counted, ran-counted, stage-ran, going-rest}
use Rattle.runner.proofs.Forming.{single-form}
use Rattle.runner.proofs.Exprs.{value-fits, fitting}

-- by its tag
module _ (nums directory ends : List ℕ) (scope : coded.Scope) (slots frame : List ℕ) (depth at : ℕ)
    (a : AsksStmt nums directory ends scope slots frame depth at) where
  pub stmt-inside : at < length nums
  stmt-inside = (stmt-begins a.stands).inside

  pub stmt-tagged : (tag : ℕ) → get_or nums at 0 ≡ tag
      → AsksTagged tag nums directory ends scope slots frame depth at
  stmt-tagged tag q = record { asks = a; tagged = q }

  pub stmt-plain : SingleAt nums ends depth at
      → AsksPlain nums directory ends scope slots frame depth at
  stmt-plain l = record { asks = a; single = l }

pub stmt-fall : (scope : coded.Scope) (depth t : ℕ) → rank (scope.reach) (2000 + 32 * depth + 20) ≡ t
    → rank (scope.reach) (2000 + 32 * depth + 19) < t
stmt-fall scope depth t e =
    rank-lower t (scope.reach) (2000 + 32 * depth + 20) (2000 + 32 * depth + 19) e (omega arith)

pub ruleset stmt_runs = (stmt-inside, stmt-tagged, stmt-plain, stmt-fall, single-form)

-- each counts a step as it begins
stmt-below : (Γ : Scope) (used : ℕ) (es : List Entry) (s : State) (counted : ℕ) (x : Stmt)
    → Goes counted (stmt_in Γ used es x s) → counted + 1 ≤ most_steps
unfolding stmt_in run_stmt
stmt-below Γ used es s counted (empty at) g = tick-below _ s g
stmt-below Γ used es s counted (assign at target p e) g = tick-below _ s g
stmt-below Γ used es s counted (if_else at c a b) g = tick-below _ s g
stmt-below Γ used es s counted (block at ss) g = tick-below _ s g
stmt-below Γ used es s counted (call_stmt at f xs) g = tick-below _ s g
stmt-below Γ used es s counted (apply at t) g = tick-below _ s g
stmt-below Γ used es s counted (return_value at e) g = tick-below _ s g
stmt-below Γ used es s counted (return at) g = tick-below _ s g
stmt-below Γ used es s counted (exit at) g = tick-below _ s g
stmt-below Γ used es s counted (set_valid at n) g = tick-below _ s g
stmt-below Γ used es s counted (set_invalid at n) g = tick-below _ s g
stmt-below Γ used es s counted (extract at n) g = tick-below _ s g
stmt-below Γ used es s counted (verify at c e) g = tick-below _ s g

module _ (tag : ℕ) (nums directory ends : List ℕ) (scope : coded.Scope) (slots frame : List ℕ) (depth at : ℕ)
    (a : AsksTagged tag nums directory ends scope slots frame depth at) where
  pub tagged-count : AsksCount slots
  tagged-count = record {
    count = store-count a.asks.stage;
    below = omega (
      arith,
      stmt-below a.asks.scope_of a.asks.used a.asks.entry_list a.asks.state
          (counter_of slots) a.asks.stmt a.asks.going,
    );
  }

  pub tagged-levels : 1 ≤ depth
  tagged-levels = (stmt-begins a.asks.stands).levels

  tagged-inside : at < length nums
  tagged-inside = (stmt-begins a.asks.stands).inside

  pub tagged-next : at + 1 < 2 ^ 64
  tagged-next = omega (arith, tagged-inside, a.asks.stage.scene.scopes.program.numbers)

  pub tagged-second : at + 2 < 2 ^ 64
  tagged-second = omega (arith, tagged-inside, a.asks.stage.scene.scopes.program.numbers)

pub operand-fall : (scope : coded.Scope) (depth t : ℕ) → rank (scope.reach) (2000 + 32 * depth + 19) ≡ t
    → rank (scope.reach) (32 * (depth - 1) + 20) < t
operand-fall scope depth t e =
    rank-lower t (scope.reach) (2000 + 32 * depth + 19) (32 * (depth - 1) + 20) e (omega arith)

pub ruleset tagged_runs = (tagged-count, tagged-levels, tagged-next, tagged-second, operand-fall)

-- one that runs no other construct
single-is : {nums ends : List ℕ} {depth at : ℕ} {x : Stmt} (l : SingleAt nums ends depth at) (Γ : Scope) (used : ℕ)
    (es : List Entry) (s : State) → StandsStmt nums ends depth at x → stmt_in Γ used es x s ≡ tick (single_in Γ x) s
unfolding stmt_in
single-is {x = x} l Γ used es s w = rw (l.is x w Γ used (calls_of Γ) (applied_in Γ used es)) refl

module _ (nums directory ends : List ℕ) (scope : coded.Scope) (slots frame : List ℕ) (depth at : ℕ)
    (a : AsksPlain nums directory ends scope slots frame depth at) where
  single-going : Goes (counter_of slots) (tick (single_in a.asks.scope_of a.asks.stmt) a.asks.state)
  single-going = rw (single-is a.single a.asks.scope_of a.asks.used a.asks.entry_list a.asks.state
      a.asks.stands) at a.asks.going

  pub single-count : AsksCount slots
  single-count = count-asks a.asks.stage _ single-going

  pub single-asks : (slots₁ : List ℕ) → Counts slots slots₁ → AsksSingle nums directory ends slots₁ at
  single-asks slots₁ c = record {
    scope = scope;
    frame = frame;
    scope_of = a.asks.scope_of;
    state = a.asks.state;
    stmt = a.asks.stmt;
    depth = depth;
    counted = counter_of slots₁;
    scene = (stage-counted a.asks.stage c).scene;
    stands = a.asks.stands;
    going = going-counted a.asks.stage _ c single-going;
  }

  pub single-runs : (slots₁ slots₂ : List ℕ) (r : Ended) → Counts slots slots₁
      → RunsSingle nums directory ends slots₁ slots₂ at r
      → RunsStmt nums directory ends scope slots slots₂ frame frame depth at r
  single-runs slots₁ slots₂ r c v = record {
    runs = λ Γ used es s x st w g.
        let same : stmt_in Γ used es x s ≡ tick (single_in Γ x) s = single-is a.single Γ used es s w in
        rw same (ran-counted st (single_in Γ x) c (v.runs scope frame Γ s x depth (counter_of slots₁)
        (stage-counted st c).scene w (going-counted st (single_in Γ x) c (rw same at g))));
  }

pub ruleset single_runs = (single-count, single-asks, single-runs)

-- what each statement with operands is, once its form is known
module _ (Γ : Scope) (used : ℕ) (es : List Entry) (s : State) (at : ℕ) where
  abbrev written : Place → Value → M State Ending
  written p v = write_at Γ p v >>= λ _. pure onward

  assign-is : (x : Stmt) (p : Place) (e : Expr) → x ≡ assign at (at + 1) p e
      → stmt_in Γ used es x s ≡ tick (expr_in Γ used e >>= written p) s
  unfolding stmt_in expr_in run_stmt
  assign-is x p e q = rw q refl

  abbrev chosen : Stmt → Stmt → Value → M State Ending
  chosen x y v = choose v (stmt_in Γ used es x) (stmt_in Γ used es y)

  if-is : (x : Stmt) (c : Expr) (y z : Stmt) → x ≡ if_else at c y z
      → stmt_in Γ used es x s ≡ tick (expr_in Γ used c >>= chosen y z) s
  unfolding stmt_in expr_in run_stmt
  if-is x c y z q = rw q refl

  pub block-is : (x : Stmt) (ss : Stmts) → x ≡ block at ss → stmt_in Γ used es x s ≡ tick (stmts_in Γ used es ss) s
  unfolding stmt_in stmts_in run_stmt
  block-is x ss q = rw q refl

  abbrev handed : Value → M State Ending
  handed v = or_stuck (returned_from Γ.body v)

  return-is : (x : Stmt) (e : Expr) → x ≡ return_value at e
      → stmt_in Γ used es x s ≡ tick (expr_in Γ used e >>= handed) s
  unfolding stmt_in expr_in run_stmt
  return-is x e q = rw q refl

  pub apply-is : (x : Stmt) (t : ℕ) → x ≡ apply at t → stmt_in Γ used es x s ≡ tick (applied_in Γ used es t) s
  unfolding stmt_in run_stmt
  apply-is x t q = rw q refl

-- an operand that runs first
module _ {nums directory ends : List ℕ} {scope : coded.Scope} {slots slots₁ frame : List ℕ} {Γ : Scope} {used : ℕ}
    {es : List Entry} {s : State} (e : Expr) (k : Value → M State Ending)
    (st : Stage nums directory ends scope slots frame Γ used es s) (c : Counts slots slots₁)
    (g : Goes (counter_of slots) (tick (expr_in Γ used e >>= k) s)) where
  pub operand-begun : Begun (counter_of slots₁) (expr_in Γ used e) k s
  operand-begun = then-goes _ _ s (going-counted st _ c g)

  module _ {slots₂ frame₂ : List ℕ} {v : values.Value}
      (h : Ran nums directory ends scope slots₁ slots₂ frame frame₂ Γ (expr_in Γ used e s)
      (Gave v.ty v.number)) where
    pub operand-rest : Goes (counter_of slots₂) (k (value_of v.ty v.number) h.state)
    operand-rest = rw h.answers.is at (going-rest (stage-counted st c) (expr_in Γ used e) k operand-begun h)

    pub operand-ran : {slots₃ frame₃ : List ℕ} {r : Ended}
        → Ran nums directory ends scope slots₂ slots₃ frame₂ frame₃ Γ
        (k (value_of v.ty v.number) h.state) (Ends r)
        → Ran nums directory ends scope slots slots₃ frame frame₃ Γ (tick (expr_in Γ used e >>= k) s) (Ends r)
    operand-ran {slots₃} {frame₃} {r} y =
        let there : Ran nums directory ends scope slots₂ slots₃ frame₂ frame₃ Γ (k h.answer h.state) (Ends r)
        = rw h.answers.is y in
        ran-counted st _ c (ran_then (expr_in Γ used e) k s h there)

-- an assignment
names_at : {nums ends : List ℕ} {depth at : ℕ} {x : Stmt} (v : AssignView nums ends depth at x)
    → NamesPlace nums (at + 1) v.place
names_at v = record { tag = v.tag.holds; stands = v.stands }

-- a value that is written is of the place's type
written_as : (Γ : Scope) (p : Place) (ty number : ℕ) → IsValue ty number → (t : Target Γ p (value_of ty number))
    → (t.number ≡ number) × Fit t.ty number
unfolding value_of
written_as Γ p ty number h t =
    let is : value (ty_of ty) number ≡ value t.ty t.number = t.value in
    let same : t.number ≡ number = cc in
    (same, rw same at (value-fits (fitting h) is))

module _ {nums directory ends : List ℕ} {scope : coded.Scope} {slots slots₁ frame : List ℕ} {depth at : ℕ} {Γ : Scope}
    {used : ℕ} {es : List Entry} {s : State} {x : Stmt} (v : AssignView nums ends depth at x)
    (st : Stage nums directory ends scope slots frame Γ used es s) (c : Counts slots slots₁)
    (g : Goes (counter_of slots) (stmt_in Γ used es x s)) where
  assign-same : stmt_in Γ used es x s ≡ tick (expr_in Γ used v.value >>= written Γ used es s at v.place) s
  assign-same = assign-is Γ used es s at x v.place v.value v.same

  assign-ticks : Goes (counter_of slots) (tick (expr_in Γ used v.value >>= written Γ used es s at v.place) s)
  assign-ticks = rw assign-same at g

  assign-first : Goes (counter_of slots₁) (expr_in Γ used v.value s)
  assign-first = (operand-begun v.value (written Γ used es s at v.place) st c assign-ticks).first

  module _ {slots₂ frame₂ : List ℕ} {y : values.Value}
      (h : Ran nums directory ends scope slots₁ slots₂ frame frame₂ Γ (expr_in Γ used v.value s)
      (Gave y.ty y.number)) where
    abbrev w : Value
    w = value_of y.ty y.number

    assign-begun : Begun (counter_of slots₂) (write_at Γ v.place w) (λ _. pure onward) h.state
    assign-begun = then-goes _ _ h.state
        (operand-rest v.value (written Γ used es s at v.place) st c assign-ticks h)

    assign_target : Target Γ v.place w
    assign_target = write-target Γ v.place w h.state (counter_of slots₂) assign-begun.first

    assign-ran : {slots₃ frame₃ : List ℕ} → Writes nums directory scope slots₂ slots₃ frame₂ frame₃ (at + 1) y.number
        → Ran nums directory ends scope slots slots₃ frame frame₃ Γ (stmt_in Γ used es x s) (Ends Onward)
    unfolding pure
    assign-ran {slots₃} {frame₃} z =
        let t = assign_target in
        let k = written_as Γ v.place y.ty y.number h.answers.is_value t in
        let made : Becomes nums directory ends scope slots₂ slots₃ frame₂ frame₃ Γ h.state
        (put v.place y.number h.state)
        = (z.written ends).writes Γ h.state v.place t.ty h.scene (names_at v) t.declares k.1 in
        let put_is : write_at Γ v.place w h.state ≡ puts (put v.place y.number) h.state
        = write-is Γ v.place w h.state t ∙ rw k.0 refl in
        let puts-ran : Ran nums directory ends scope slots₂ slots₃ frame₂ frame₃ Γ
        (write_at Γ v.place w h.state) (λ _. Unit {0})
        = rw put_is (ran-becomes (put v.place y.number) h.state made) in
        rw assign-same (operand-ran v.value (written Γ used es s at v.place) st c assign-ticks h
        (ran_then (write_at Γ v.place w) (λ _. pure onward) h.state puts-ran
        (ran-here puts-ran.state onward puts-ran.scene refl ends-onward)))

module _ (nums directory ends : List ℕ) (scope : coded.Scope) (slots frame : List ℕ) (depth at : ℕ)
    (a : AsksTagged 1 nums directory ends scope slots frame depth at) where
  assign-at : (x : Stmt) → StandsStmt nums ends depth at x → AssignView nums ends depth at x
  unfolding StmtView
  assign-at x w = rw a.tagged at (stmt-view w)

  assigns : AssignView nums ends depth at a.asks.stmt
  assigns = assign-at a.asks.stmt a.asks.stands

  pub assign-inside : at + 1 < length ends
  assign-inside = omega (arith, assigns.tag.holds.inside, a.asks.stage.scene.scopes.program.room)

  module _ (slots₁ : List ℕ) (c : Counts slots slots₁) (value : ℕ) (same : value ≡ get_or ends (at + 1) 0) where
    pub assign-value : AsksExpr nums directory ends scope slots₁ frame (depth - 1) value
    assign-value = rw same (record {
      scope_of = a.asks.scope_of;
      used = a.asks.used;
      entry_list = a.asks.entry_list;
      state = a.asks.state;
      expr = assigns.value;
      stage = stage-counted a.asks.stage c;
      stands = assigns.value_stands;
      deep = omega (arith, a.asks.deep);
      going = assign-first assigns a.asks.stage c a.asks.going;
    })

    module _ (slots₂ frame₂ : List ℕ) (y : values.Value)
        (r : RunsExpr nums directory ends scope slots₁ slots₂ frame frame₂ (depth - 1) value y)
      where
        value-ran : (Γ : Scope) (used : ℕ) (es : List Entry) (s : State) (x : Stmt) (v : AssignView nums ends depth at x)
            → Stage nums directory ends scope slots frame Γ used es s
            → Goes (counter_of slots) (stmt_in Γ used es x s)
            → Ran nums directory ends scope slots₁ slots₂ frame frame₂ Γ (expr_in Γ used v.value s)
            (Gave y.ty y.number)
        value-ran Γ used es s x v st g =
            r.runs Γ used es s v.value (stage-counted st c) (rw same v.value_stands) (assign-first v st c g)

        pub assign-write : AsksWrite nums directory scope slots₂ frame₂ (at + 1)
        assign-write =
            let h = value-ran a.asks.scope_of a.asks.used a.asks.entry_list a.asks.state a.asks.stmt
            assigns a.asks.stage a.asks.going in
            let t = assign_target assigns a.asks.stage c a.asks.going h in
            record {
              ends = ends;
              asks = record {
                scope_of = a.asks.scope_of;
                state = h.state;
                place = assigns.place;
                ty = t.ty;
                scene = h.scene;
                names = names_at assigns;
                declares = t.declares;
              };
            }

        pub assign-runs : (slots₃ frame₃ : List ℕ)
            → Writes nums directory scope slots₂ slots₃ frame₂ frame₃ (at + 1) y.number
            → RunsStmt nums directory ends scope slots slots₃ frame frame₃ depth at Onward
        assign-runs slots₃ frame₃ z = record {
          runs = λ Γ used es s x st w g.
              let v = assign-at x w in
              assign-ran v st c g (value-ran Γ used es s x v st g) z;
        }

pub ruleset assign_runs = (assign-inside, assign-value, assign-write, assign-runs)

-- an if: by the number of its condition
pub chosen-zero : (ty number counted : ℕ) (x y : M State Ending) (s : State) → number ≡ 0
    → Goes counted (choose (value_of ty number) x y s) → choose (value_of ty number) x y s ≡ y s
unfolding value_of
chosen-zero ty number counted x y s e g = go (ty_of ty) number e g
  where
    go : (t : Ty) (n : ℕ) → n ≡ 0 → Goes counted (choose (value t n) x y s) → choose (value t n) x y s ≡ y s
    go bool zero e h = unfold choose in refl
    go bool (suc n) e h = absurd (omega (arith, e))
    go (bits width) n e h = unfold choose in not-nowhere s h

pub chosen_more : (ty number counted : ℕ) (x y : M State Ending) (s : State) → (number ≡ 0 → ⊥)
    → Goes counted (choose (value_of ty number) x y s) → choose (value_of ty number) x y s ≡ x s
unfolding value_of
chosen_more ty number counted x y s e g = go (ty_of ty) number e g
  where
    go : (t : Ty) (n : ℕ) → (n ≡ 0 → ⊥) → Goes counted (choose (value t n) x y s) → choose (value t n) x y s ≡ x s
    go bool zero e h = absurd (e refl)
    go bool (suc n) e h = unfold choose in refl
    go (bits width) n e h = unfold choose in not-nowhere s h

module _ {nums directory ends : List ℕ} {scope : coded.Scope} {slots slots₁ frame : List ℕ} {depth at : ℕ} {Γ : Scope}
    {used : ℕ} {es : List Entry} {s : State} {x : Stmt} (v : IfView nums ends depth at x)
    (st : Stage nums directory ends scope slots frame Γ used es s) (c : Counts slots slots₁)
    (g : Goes (counter_of slots) (stmt_in Γ used es x s)) where
  if-same : stmt_in Γ used es x s
      ≡ tick (expr_in Γ used v.condition >>= chosen Γ used es s at v.first v.second) s
  if-same = if-is Γ used es s at x v.condition v.first v.second v.same

  if-ticks : Goes (counter_of slots)
      (tick (expr_in Γ used v.condition >>= chosen Γ used es s at v.first v.second) s)
  if-ticks = rw if-same at g

  if-first : Goes (counter_of slots₁) (expr_in Γ used v.condition s)
  if-first = (operand-begun v.condition (chosen Γ used es s at v.first v.second) st c if-ticks).first

  module _ {slots₂ frame₂ : List ℕ} {y : values.Value}
      (h : Ran nums directory ends scope slots₁ slots₂ frame frame₂ Γ (expr_in Γ used v.condition s)
      (Gave y.ty y.number)) where
    if-rest : Goes (counter_of slots₂) (chosen Γ used es s at v.first v.second (value_of y.ty y.number)
        h.state)
    if-rest = operand-rest v.condition (chosen Γ used es s at v.first v.second) st c if-ticks h

    branch-ran : {slots₃ frame₃ : List ℕ} {r : Ended} (z : Stmt)
        → chosen Γ used es s at v.first v.second (value_of y.ty y.number) h.state
        ≡ stmt_in Γ used es z h.state
        → Ran nums directory ends scope slots₂ slots₃ frame₂ frame₃ Γ (stmt_in Γ used es z h.state) (Ends r)
        → Ran nums directory ends scope slots slots₃ frame frame₃ Γ (stmt_in Γ used es x s) (Ends r)
    branch-ran z e k = rw if-same (operand-ran v.condition (chosen Γ used es s at v.first v.second) st c
        if-ticks h (rw e k))

    second_is : y.number ≡ 0 → chosen Γ used es s at v.first v.second (value_of y.ty y.number) h.state
        ≡ stmt_in Γ used es v.second h.state
    second_is q = chosen-zero y.ty y.number (counter_of slots₂) (stmt_in Γ used es v.first)
        (stmt_in Γ used es v.second) h.state q if-rest

    first-is : (y.number ≡ 0 → ⊥)
        → chosen Γ used es s at v.first v.second (value_of y.ty y.number) h.state
        ≡ stmt_in Γ used es v.first h.state
    first-is q = chosen_more y.ty y.number (counter_of slots₂) (stmt_in Γ used es v.first)
        (stmt_in Γ used es v.second) h.state q if-rest

module _ (nums directory ends : List ℕ) (scope : coded.Scope) (slots frame : List ℕ) (depth at : ℕ)
    (a : AsksTagged 2 nums directory ends scope slots frame depth at) where
  if-at : (x : Stmt) → StandsStmt nums ends depth at x → IfView nums ends depth at x
  unfolding StmtView
  if-at x w = rw a.tagged at (stmt-view w)

  ifs : IfView nums ends depth at a.asks.stmt
  ifs = if-at a.asks.stmt a.asks.stands

  pub if-inside : at + 1 < length ends
  if-inside =
      omega (arith, (expr-begins ifs.condition_stands).inside, a.asks.stage.scene.scopes.program.room)

  pub if-next : (first : ℕ) → first ≡ get_or ends (at + 1) 0 → first < length ends
  if-next first e =
      omega (arith, e, (stmt-begins ifs.first_stands).inside, a.asks.stage.scene.scopes.program.room)

  pub if-low : (first : ℕ) → first ≡ get_or ends (at + 1) 0 → first < most_bytes
  if-low first e =
      omega (arith, e, (stmt-begins ifs.first_stands).inside, a.asks.stage.scene.scopes.program.numbers)

  module _ (slots₁ : List ℕ) (c : Counts slots slots₁) where
    pub if-condition : AsksExpr nums directory ends scope slots₁ frame (depth - 1) (at + 1)
    if-condition = record {
      scope_of = a.asks.scope_of;
      used = a.asks.used;
      entry_list = a.asks.entry_list;
      state = a.asks.state;
      expr = ifs.condition;
      stage = stage-counted a.asks.stage c;
      stands = ifs.condition_stands;
      deep = omega (arith, a.asks.deep);
      going = if-first ifs a.asks.stage c a.asks.going;
    }

    module _ (slots₂ frame₂ : List ℕ) (y : values.Value)
        (r : RunsExpr nums directory ends scope slots₁ slots₂ frame frame₂ (depth - 1) (at + 1) y)
      where
        condition-ran : (Γ : Scope) (used : ℕ) (es : List Entry) (s : State) (x : Stmt) (v : IfView nums ends depth at x)
            → Stage nums directory ends scope slots frame Γ used es s
            → Goes (counter_of slots) (stmt_in Γ used es x s)
            → Ran nums directory ends scope slots₁ slots₂ frame frame₂ Γ (expr_in Γ used v.condition s)
            (Gave y.ty y.number)
        condition-ran Γ used es s x v st g =
            r.runs Γ used es s v.condition (stage-counted st c) v.condition_stands (if-first v st c g)

        condition-known : Ran nums directory ends scope slots₁ slots₂ frame frame₂ a.asks.scope_of
            (expr_in a.asks.scope_of a.asks.used ifs.condition a.asks.state) (Gave y.ty y.number)
        condition-known = condition-ran a.asks.scope_of a.asks.used a.asks.entry_list a.asks.state
            a.asks.stmt ifs a.asks.stage a.asks.going

        branch-asks : (branch : ℕ) (z : Stmt) → StandsStmt nums ends (depth - 1) branch z
            → Goes (counter_of slots₂) (stmt_in a.asks.scope_of a.asks.used a.asks.entry_list z
            condition-known.state)
            → AsksStmt nums directory ends scope slots₂ frame₂ (depth - 1) branch
        branch-asks branch z w g = record {
          scope_of = a.asks.scope_of;
          used = a.asks.used;
          entry_list = a.asks.entry_list;
          state = condition-known.state;
          stmt = z;
          stage = stage-ran (stage-counted a.asks.stage c) condition-known;
          stands = w;
          deep = omega (arith, a.asks.deep);
          going = g;
        }

        pub if-second : (first second : ℕ) → y.number ≡ 0 → first ≡ get_or ends (at + 1) 0 → second ≡ get_or ends first 0
            → AsksStmt nums directory ends scope slots₂ frame₂ (depth - 1) second
        if-second first second q e d = branch-asks second ifs.second (rw (d, e) ifs.second_stands)
            (rw (second_is ifs a.asks.stage c a.asks.going condition-known q) at
            (if-rest ifs a.asks.stage c a.asks.going condition-known))

        pub if-first-branch : (first : ℕ) → (y.number ≡ 0 → ⊥) → first ≡ get_or ends (at + 1) 0
            → AsksStmt nums directory ends scope slots₂ frame₂ (depth - 1) first
        if-first-branch first q e = branch-asks first ifs.first (rw e ifs.first_stands)
            (rw (first-is ifs a.asks.stage c a.asks.going condition-known q) at
            (if-rest ifs a.asks.stage c a.asks.going condition-known))

        module _ (slots₃ frame₃ : List ℕ) (z : Ended) where
          second-ran : (first second : ℕ) → y.number ≡ 0 → first ≡ get_or ends (at + 1) 0 → second ≡ get_or ends first 0
              → RunsStmt nums directory ends scope slots₂ slots₃ frame₂ frame₃ (depth - 1) second z
              → (Γ : Scope) (used : ℕ) (es : List Entry) (s : State) (x : Stmt) (v : IfView nums ends depth at x)
              → Stage nums directory ends scope slots frame Γ used es s
              → Goes (counter_of slots) (stmt_in Γ used es x s)
              → Ran nums directory ends scope slots slots₃ frame frame₃ Γ (stmt_in Γ used es x s) (Ends z)
          second-ran first second q e d k Γ used es s x v st g =
              let h = condition-ran Γ used es s x v st g in
              let same = second_is v st c g h q in
              branch-ran v st c g h v.second same (k.runs Γ used es h.state v.second
              (stage-ran (stage-counted st c) h) (rw (d, e) v.second_stands) (rw same at (if-rest v st c g h)))

          pub if-runs-second : (first second : ℕ) → y.number ≡ 0 → first ≡ get_or ends (at + 1) 0
              → second ≡ get_or ends first 0
              → RunsStmt nums directory ends scope slots₂ slots₃ frame₂ frame₃ (depth - 1) second z
              → RunsStmt nums directory ends scope slots slots₃ frame frame₃ depth at z
          if-runs-second first second q e d k = record {
            runs = λ Γ used es s x st w g. second-ran first second q e d k Γ used es s x (if-at x w) st g;
          }

          first-ran : (first : ℕ) → (y.number ≡ 0 → ⊥) → first ≡ get_or ends (at + 1) 0
              → RunsStmt nums directory ends scope slots₂ slots₃ frame₂ frame₃ (depth - 1) first z
              → (Γ : Scope) (used : ℕ) (es : List Entry) (s : State) (x : Stmt) (v : IfView nums ends depth at x)
              → Stage nums directory ends scope slots frame Γ used es s
              → Goes (counter_of slots) (stmt_in Γ used es x s)
              → Ran nums directory ends scope slots slots₃ frame frame₃ Γ (stmt_in Γ used es x s) (Ends z)
          first-ran first q e k Γ used es s x v st g =
              let h = condition-ran Γ used es s x v st g in
              let same = first-is v st c g h q in
              branch-ran v st c g h v.first same (k.runs Γ used es h.state v.first
              (stage-ran (stage-counted st c) h) (rw e v.first_stands) (rw same at (if-rest v st c g h)))

          pub if-runs-first : (first : ℕ) → (y.number ≡ 0 → ⊥) → first ≡ get_or ends (at + 1) 0
              → RunsStmt nums directory ends scope slots₂ slots₃ frame₂ frame₃ (depth - 1) first z
              → RunsStmt nums directory ends scope slots slots₃ frame frame₃ depth at z
          if-runs-first first q e k = record {
            runs = λ Γ used es s x st w g. first-ran first q e k Γ used es s x (if-at x w) st g;
          }

pub branch-fall : (tag : ℕ) (nums directory ends : List ℕ) (scope : coded.Scope) (slots frame : List ℕ) (depth at : ℕ)
    → AsksTagged tag nums directory ends scope slots frame depth at
    → (t : ℕ) → rank (scope.reach) (2000 + 32 * depth + 19) ≡ t
    → rank (scope.reach) (2000 + 32 * (depth - 1) + 20) < t
branch-fall tag nums directory ends scope slots frame depth at a t e =
    rank-lower t (scope.reach) (2000 + 32 * depth + 19) (2000 + 32 * (depth - 1) + 20) e
    (omega (arith, (stmt-begins a.asks.stands).levels))

pub ruleset if_runs =
    (if-inside, if-next, if-condition, if-second, if-first-branch, if-runs-second, if-runs-first, branch-fall)

-- a return with a value
returned-is : (b : Body) (ty number : ℕ) (ending : Ending) → returned_from b (value_of ty number) ≡ some ending
    → ending ≡ returned_value (value_of ty number)
returned-is (in_function t) ty number ending e = go (number_of t (value_of ty number)) refl (unfold returned_from in e)
  where
    go : (o : Option ℕ) → number_of t (value_of ty number) ≡ o
        → and_look o (λ n. some (returned_value (value t n))) ≡ some ending → ending ≡ returned_value (value_of ty number)
    go none q k = unfold and_look in let z : ◌≡◌ {A = ℕ} 0 1 = cc in absurd (omega arith)
    go (some n) q k = unfold and_look in
        let is : value_of ty number ≡ value t n = value-is t (value_of ty number) n q in
        let same : ending ≡ returned_value (value t n) = cc in
        same ∙ ap returned_value (sym is)
returned-is in_action ty number ending e = unfold returned_from in let z : ◌≡◌ {A = ℕ} 0 1 = cc in absurd (omega arith)
returned-is in_apply ty number ending e = unfold returned_from in let z : ◌≡◌ {A = ℕ} 0 1 = cc in absurd (omega arith)
returned-is in_state ty number ending e = unfold returned_from in let z : ◌≡◌ {A = ℕ} 0 1 = cc in absurd (omega arith)

module _ {nums directory ends : List ℕ} {scope : coded.Scope} {slots slots₁ frame : List ℕ} {depth at : ℕ} {Γ : Scope}
    {used : ℕ} {es : List Entry} {s : State} {x : Stmt} (v : ReturnView nums ends depth at x)
    (st : Stage nums directory ends scope slots frame Γ used es s) (c : Counts slots slots₁)
    (g : Goes (counter_of slots) (stmt_in Γ used es x s)) where
  return-same : stmt_in Γ used es x s ≡ tick (expr_in Γ used v.value >>= handed Γ used es s at) s
  return-same = return-is Γ used es s at x v.value v.same

  return-ticks : Goes (counter_of slots) (tick (expr_in Γ used v.value >>= handed Γ used es s at) s)
  return-ticks = rw return-same at g

  return-first : Goes (counter_of slots₁) (expr_in Γ used v.value s)
  return-first = (operand-begun v.value (handed Γ used es s at) st c return-ticks).first

  return-ran : {slots₂ frame₂ : List ℕ} {y : values.Value}
      → Ran nums directory ends scope slots₁ slots₂ frame frame₂ Γ (expr_in Γ used v.value s)
      (Gave y.ty y.number)
      → Ran nums directory ends scope slots slots₂ frame frame₂ Γ (stmt_in Γ used es x s)
      (Ends (ReturnedValue y.ty y.number))
  return-ran {y = y} h =
      let k = some-goes (returned_from Γ.body (value_of y.ty y.number)) h.state
      (operand-rest v.value (handed Γ used es s at) st c return-ticks h) in
      let same = returned-is Γ.body y.ty y.number k.member k.is in
      let ends : Ends (ReturnedValue y.ty y.number) (returned_value (value_of y.ty y.number))
      = ends-value h.answers.is_value in
      rw return-same (operand-ran v.value (handed Γ used es s at) st c return-ticks h
      (ran-here h.state (returned_value (value_of y.ty y.number)) h.scene
      (some_is (returned_from Γ.body (value_of y.ty y.number)) h.state (k.is ∙ ap some same)) ends))

module _ (nums directory ends : List ℕ) (scope : coded.Scope) (slots frame : List ℕ) (depth at : ℕ)
    (a : AsksTagged 6 nums directory ends scope slots frame depth at) where
  return-at : (x : Stmt) → StandsStmt nums ends depth at x → ReturnView nums ends depth at x
  unfolding StmtView
  return-at x w = rw a.tagged at (stmt-view w)

  returns : ReturnView nums ends depth at a.asks.stmt
  returns = return-at a.asks.stmt a.asks.stands

  module _ (slots₁ : List ℕ) (c : Counts slots slots₁) where
    pub return-value : AsksExpr nums directory ends scope slots₁ frame (depth - 1) (at + 1)
    return-value = record {
      scope_of = a.asks.scope_of;
      used = a.asks.used;
      entry_list = a.asks.entry_list;
      state = a.asks.state;
      expr = returns.value;
      stage = stage-counted a.asks.stage c;
      stands = returns.stands;
      deep = omega (arith, a.asks.deep);
      going = return-first returns a.asks.stage c a.asks.going;
    }

    pub return-runs : (slots₂ frame₂ : List ℕ) (y : values.Value)
        → RunsExpr nums directory ends scope slots₁ slots₂ frame frame₂ (depth - 1) (at + 1) y
        → RunsStmt nums directory ends scope slots slots₂ frame frame₂ depth at
        (ReturnedValue y.ty y.number)
    return-runs slots₂ frame₂ y r = record {
      runs = λ Γ used es s x st w g.
          let v = return-at x w in
          return-ran v st c g (r.runs Γ used es s v.value (stage-counted st c) v.stands (return-first v st c g));
    }

pub ruleset return_runs = (return-value, return-runs)
