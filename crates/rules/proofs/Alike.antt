-- Runs that come out alike and are not full: what calls nothing, and every construct whose calls come out alike. One
-- law for each way of running two things one after the other; nothing is asked of the program.
use mathlib.Core.Path.{◌≡◌, refl}
use mathlib.Core.Bool.{Bool, true, false}
use mathlib.Core.Option.{Option, none, some}
use Prim.Native.Nat.{ℕ, zero, suc}
use native.Mathlib.Omega.{arith}
use mathlib.Core.List.{List, [], ◌∷◌}
use lib.Dec.{leb, eqb}
use lib.ListN.{length}
use Rattle.rules.specs.Syntax.{Ty, bool, bits, Value, value, Operator, arithmetic, order, shift, equality, logic, Logic, both, either, Place}
use Rattle.rules.specs.Syntax.{Expr, bool_literal, bits_literal, read_of, valid_of, negation, complement, binary, cast, slice, concatenation, call_expr, Args, no_args, arg}
use Rattle.rules.specs.Syntax.{Stmt, empty, assign, if_else, block, call_stmt, apply, return_value, return, exit, set_valid, set_invalid, extract, verify, Stmts, no_stmts, stmt}
use Rattle.rules.specs.Syntax.{Parameter, Key, Table, Pair, Transition, no_transition, accept, reject, lead_to, select, ParserState, Program}
use Rattle.rules.specs.Form.{Body, Scope, goes_in, comes_back}
use Rattle.rules.specs.Lists.{Entry, Cell}
use Rattle.rules.specs.Running.{State, Ending, onward, returned, returned_value, exited, rejected, Seen, Out, done, stuck, full, M, more, next, ◌>>=◌, pure, nowhere, tick, or_stuck, must, gets, set_to, puts}
use Rattle.rules.specs.Running.{read_at, write_at, change_header, valid_at, choose, logic_with, binary_with, and_then_run, Calls, enter, on_store, take_in, go_in, write_back, in_turn, come_back, after_body, run_call, run_expr, run_args}
use Rattle.rules.specs.Running.{bytes_in, take_header, extract_into, extract_at, leave_by, run_stmt, run_stmts, Found, found, nothing, run_keys, run_action, run_found, run_table, selected, run_transition, run_state, run_from, run_parser}

-- two outcomes that are the same, and not full
pub data Alike {S A : Type 0} : Out S A → Out S A → Type 0 where
  both_done : {a : A} {s : S} {seen : Seen} → Alike (done a s seen) (done a s seen)
  both_stuck : Alike stuck stuck

pub record RunAlike {S A : Type 0} (m n : M S A) : Type 0 where
  pub alike : (s : S) → Alike (m s) (n s)

pub alike_same : {S A : Type 0} {o p : Out S A} → Alike o p → o ≡ p
alike_same both_done = refl
alike_same both_stuck = refl

pub alike-not-full : {S A : Type 0} {o p : Out S A} → Alike o p → o ≡ full → ⊥
alike-not-full both_done e = let z : ◌≡◌ {A = ℕ} 0 1 = cc in omega arith
alike-not-full both_stuck e = let z : ◌≡◌ {A = ℕ} 0 1 = cc in omega arith

-- one after the other
more-alike : {S A : Type 0} {o p : Out S A} (seen : Seen) → Alike o p → Alike (more seen o) (more seen p)
unfolding more
more-alike seen both_done = both_done
more-alike seen both_stuck = both_stuck

pub next-alike : {S A B : Type 0} {o p : Out S A} {k l : A → M S B} → Alike o p → ((a : A) → RunAlike (k a) (l a))
    → Alike (next o k) (next p l)
unfolding next
next-alike (both_done {a} {s} {seen}) h = more-alike seen ((h a).alike s)
next-alike both_stuck h = both_stuck

then-alike : {S A B : Type 0} {m n : M S A} {k l : A → M S B} → RunAlike m n → ((a : A) → RunAlike (k a) (l a))
    → RunAlike (m >>= k) (n >>= l)
unfolding ◌>>=◌
then-alike h g = record { alike = λ s. next-alike (h.alike s) g }

tick-alike : {A : Type 0} {m n : M State A} → RunAlike m n → RunAlike (tick m) (tick n)
unfolding tick
tick-alike h = record { alike = λ s. more-alike (s.store ∷ []) (h.alike s) }

-- what calls nothing
module _ {S : Type 0} where
  pure-alike : {A : Type 0} (a : A) → RunAlike {S = S} (pure a) (pure a)
  unfolding pure
  pure-alike a = record { alike = λ s. both_done }

  pub nowhere-alike : {A : Type 0} → RunAlike {S = S} {A = A} nowhere nowhere
  unfolding nowhere
  nowhere-alike = record { alike = λ s. both_stuck }

  some_alike : {A : Type 0} (o : Option A) → RunAlike {S = S} (or_stuck o) (or_stuck o)
  unfolding or_stuck
  some_alike none = record { alike = λ s. both_stuck }
  some_alike (some a) = record { alike = λ s. both_done }

  must-alike : (b : Bool) → RunAlike {S = S} (must b) (must b)
  unfolding must
  must-alike true = record { alike = λ s. both_done }
  must-alike false = record { alike = λ s. both_stuck }

  gets-alike : {A : Type 0} (f : S → Option A) → RunAlike (gets f) (gets f)
  unfolding gets
  gets-alike f = record { alike = λ s. (some_alike (f s)).alike s }

  set-alike : (o : Option S) → Alike (set_to o) (set_to o)
  unfolding set_to
  set-alike none = both_stuck
  set-alike (some s) = both_done

  puts-alike : (f : S → Option S) → RunAlike (puts f) (puts f)
  unfolding puts
  puts-alike f = record { alike = λ s. set-alike (f s) }

  pub branch-alike : {A : Type 0} {m n k l : M S A} (b : Bool) → RunAlike m n → RunAlike k l
      → RunAlike {S = S} {A = A} (elim b [ true ↦ m | false ↦ k ]) (elim b [ true ↦ n | false ↦ l ])
  branch-alike true h g = h
  branch-alike false h g = g

  choose-alike : {A : Type 0} {m n k l : M S A} (v : Value) → RunAlike m n → RunAlike k l
      → RunAlike (choose v m k) (choose v n l)
  unfolding choose
  choose-alike (value bool zero) h g = g
  choose-alike (value bool (suc n)) h g = h
  choose-alike (value (bits width) n) h g = nowhere-alike

  logic-alike : {m n : M S Value} (o : Logic) (v : Value) → RunAlike m n → RunAlike (logic_with o v m) (logic_with o v n)
  unfolding logic_with
  logic-alike both v h = choose-alike v h (pure-alike _)
  logic-alike either v h = choose-alike v (pure-alike _) h

  binary-alike : {a b c d : M S Value} (o : Operator) → RunAlike a c → RunAlike b d
      → RunAlike (binary_with o a b) (binary_with o c d)
  unfolding binary_with
  binary-alike (arithmetic o) h g = then-alike h λ v. then-alike g λ u. some_alike _
  binary-alike (order o) h g = then-alike h λ v. then-alike g λ u. some_alike _
  binary-alike (shift o) h g = then-alike h λ v. then-alike g λ u. some_alike _
  binary-alike (equality o) h g = then-alike h λ v. then-alike g λ u. some_alike _
  binary-alike (logic o) h g = then-alike h λ v. logic-alike o v (then-alike g λ u. some_alike _)

  pub and-then-alike : {m n : M S Ending} (e : Ending) → RunAlike m n → RunAlike (and_then_run e m) (and_then_run e n)
  unfolding and_then_run
  and-then-alike onward h = h
  and-then-alike returned h = pure-alike _
  and-then-alike (returned_value v) h = pure-alike _
  and-then-alike exited h = pure-alike _
  and-then-alike (rejected e) h = pure-alike _

  leave-by-alike : (b : Body) (e : Ending) → RunAlike {S = S} (leave_by b e) (leave_by b e)
  unfolding leave_by
  leave-by-alike b e = then-alike (must-alike _) λ _. pure-alike e

module _ (Γ : Scope) where
  read_alike : (p : Place) → RunAlike (read_at Γ p) (read_at Γ p)
  unfolding read_at
  read_alike p = then-alike (some_alike _) λ t. then-alike (gets-alike _) λ n. pure-alike _

  write-alike : (p : Place) (v : Value) → RunAlike (write_at Γ p v) (write_at Γ p v)
  unfolding write_at
  write-alike p v = then-alike (some_alike _) λ t. then-alike (some_alike _) λ n. puts-alike _

  change-alike : (g : ℕ) (f : Cell → Option Cell) → RunAlike (change_header Γ g f) (change_header Γ g f)
  unfolding change_header
  change-alike g f = then-alike (some_alike _) λ _. puts-alike _

  extract-alike : (g : ℕ) → RunAlike (extract_at Γ g) (extract_at Γ g)
  unfolding extract_at extract_into next ◌>>=◌
  extract-alike g = then-alike (some_alike _) λ widths. record {
    alike = λ s. go widths s (leb (bytes_in widths) (length s.packet));
  }
    where
      go : (widths : List ℕ) (s : State) (b : Bool) → Alike {S = State} {A = Ending} (elim b [
        | true ↦ next (puts (take_header g widths) s) (λ _. pure onward)
        | false ↦ pure (rejected 1) s
      ]) (elim b [
        | true ↦ next (puts (take_header g widths) s) (λ _. pure onward)
        | false ↦ pure (rejected 1) s
      ])
      go widths s true = (then-alike (puts-alike (take_header g widths)) (λ _. pure-alike onward)).alike s
      go widths s false = (pure-alike (rejected 1)).alike s

  valid-alike : (g : ℕ) → RunAlike (valid_at Γ g) (valid_at Γ g)
  unfolding valid_at
  valid-alike g = then-alike (some_alike _) λ widths. then-alike (gets-alike _) λ b. pure-alike _

  back-alike : (place : Option Place) (v : Value) → RunAlike (write_back Γ place v) (write_back Γ place v)
  unfolding write_back
  back-alike none v = nowhere-alike
  back-alike (some p) v = write-alike p v

  -- in whatever order
  both-alike : {m n : M State (Unit {0})} → RunAlike m m → RunAlike n n → RunAlike (m >>= λ _. n) (m >>= λ _. n)
  both-alike h g = then-alike h λ _. g

  in-turn-alike : {m n : M State (Unit {0})} → RunAlike m m → RunAlike n n → RunAlike (in_turn m n) (in_turn m n)
  unfolding in_turn
  in-turn-alike h g = search both-alike

  come-back-alike : (xs : Args) (ps : List Parameter) (ns : List ℕ)
      → RunAlike (come_back Γ xs ps ns) (come_back Γ xs ps ns)
  unfolding come_back
  come-back-alike no_args [] [] = pure-alike _
  come-back-alike no_args [] (n ∷ ns) = nowhere-alike
  come-back-alike no_args (p ∷ ps) ns = nowhere-alike
  come-back-alike (arg e xs) [] ns = nowhere-alike
  come-back-alike (arg e xs) (p ∷ ps) [] = nowhere-alike
  come-back-alike (arg e xs) (p ∷ ps) (n ∷ ns) = branch-alike (comes_back p.direction)
      (in-turn-alike (back-alike _ _) (come-back-alike xs ps ns)) (come-back-alike xs ps ns)

-- a call and what is around it
take-in-alike : {m n : M State Value} (b : Bool) (t : Ty) → RunAlike m n → RunAlike (take_in b t m) (take_in b t n)
unfolding take_in
take-in-alike true t h = then-alike h λ v. some_alike _
take-in-alike false t h = tick-alike (pure-alike 0)

go-in-alike : (Γ : Scope) (p : Parameter) (place : Option Place) {m n : M State Value} → RunAlike m n
    → RunAlike (go_in Γ p place m) (go_in Γ p place n)
unfolding go_in
go-in-alike Γ p place h = then-alike (must-alike _) λ _. take-in-alike (goes_in p.direction) p.ty h

enter-alike : {A : Type 0} (s : State) {o p : Out (List Cell) A} → Alike o p → Alike (enter s o) (enter s p)
unfolding enter
enter-alike s both_done = both_done
enter-alike s both_stuck = both_stuck

on-store-alike : {A : Type 0} {m n : M (List Cell) A} → RunAlike m n → RunAlike (on_store m) (on_store n)
unfolding on_store
on-store-alike h = record { alike = λ s. enter-alike s (h.alike s.store) }

after-alike : {m : M State (Unit {0})} (e : Ending) → RunAlike m m → RunAlike (after_body e m) (after_body e m)
unfolding after_body
after-alike onward h = then-alike h λ _. pure-alike _
after-alike returned h = then-alike h λ _. pure-alike _
after-alike (returned_value v) h = then-alike h λ _. pure-alike _
after-alike exited h = pure-alike _
after-alike (rejected e) h = pure-alike _

-- the calls of two runs are alike
module _ (used other : ℕ) (calls others : Calls)
    (same : (f : ℕ) (ns : List ℕ) → RunAlike (calls used f ns) (others other f ns)) where
  module _ (Γ : Scope) where
    call-alike : (f : ℕ) (xs : Args) (ps : List Parameter) (ns : List ℕ)
        → RunAlike (run_call Γ used calls f xs ps ns) (run_call Γ other others f xs ps ns)
    unfolding run_call
    call-alike f xs ps ns = then-alike (on-store-alike (same f ns)) λ r.
        after-alike r.0 (come-back-alike Γ xs ps r.1)

    mutual
      unfolding run_expr

      expr-alike : (e : Expr) → RunAlike (run_expr Γ used calls e) (run_expr Γ other others e)
      expr-alike (bool_literal at n) = tick-alike (some_alike _)
      expr-alike (bits_literal at width n) = tick-alike (some_alike _)
      expr-alike (read_of at p) = tick-alike (read_alike Γ p)
      expr-alike (valid_of at g) = tick-alike (valid-alike Γ g)
      expr-alike (negation at a) = tick-alike (then-alike (expr-alike a) λ v. some_alike _)
      expr-alike (complement at a) = tick-alike (then-alike (expr-alike a) λ v. some_alike _)
      expr-alike (binary at o a b) = tick-alike (binary-alike o (expr-alike a) (expr-alike b))
      expr-alike (cast at width a) = tick-alike (then-alike (expr-alike a) λ v. some_alike _)
      expr-alike (slice at high low a) = tick-alike (then-alike (expr-alike a) λ v. some_alike _)
      expr-alike (concatenation at a b) = tick-alike (then-alike (expr-alike a) λ v. then-alike (expr-alike b) λ u.
          some_alike _)
      expr-alike (call_expr at f xs) = tick-alike (then-alike (some_alike _) λ c. then-alike (some_alike _) λ t.
          then-alike (must-alike _) λ _. then-alike (args-alike xs c.parameters) λ ns. then-alike (call-alike f xs c.parameters ns) λ e.
          some_alike _)

      args-alike : (xs : Args) (ps : List Parameter)
          → RunAlike (run_args Γ used calls xs ps) (run_args Γ other others xs ps)
      args-alike no_args [] = pure-alike []
      args-alike no_args (p ∷ ps) = nowhere-alike
      args-alike (arg e xs) [] = nowhere-alike
      args-alike (arg e xs) (p ∷ ps) = then-alike (go-in-alike Γ p _ (expr-alike e)) λ n.
          then-alike (args-alike xs ps) λ ns. pure-alike _

    module _ (applied elsewhere : ℕ → M State Ending) (applies : (t : ℕ) → RunAlike (applied t) (elsewhere t)) where
      mutual
        unfolding run_stmt

        pub stmt-alike : (s : Stmt) → RunAlike (run_stmt Γ used calls applied s) (run_stmt Γ other others elsewhere s)
        stmt-alike (empty at) = tick-alike (pure-alike _)
        stmt-alike (assign at target p e) = tick-alike (then-alike (expr-alike e) λ v.
            then-alike (write-alike Γ p v) λ _. pure-alike _)
        stmt-alike (if_else at c a b) = tick-alike (then-alike (expr-alike c) λ v.
            choose-alike v (stmt-alike a) (stmt-alike b))
        stmt-alike (block at ss) = tick-alike (stmts-alike ss)
        stmt-alike (call_stmt at f xs) = tick-alike (then-alike (some_alike _) λ c. then-alike (must-alike _) λ _.
            then-alike (args-alike xs c.parameters) λ ns. then-alike (call-alike f xs c.parameters ns) λ e.
            pure-alike _)
        stmt-alike (apply at t) = tick-alike (applies t)
        stmt-alike (return_value at e) = tick-alike (then-alike (expr-alike e) λ v. some_alike _)
        stmt-alike (return at) = tick-alike (leave-by-alike _ _)
        stmt-alike (exit at) = tick-alike (leave-by-alike _ _)
        stmt-alike (set_valid at g) = tick-alike (then-alike (change-alike Γ g _) λ _. pure-alike _)
        stmt-alike (set_invalid at g) = tick-alike (then-alike (change-alike Γ g _) λ _. pure-alike _)
        stmt-alike (extract at g) = tick-alike (then-alike (must-alike _) λ _. extract-alike Γ g)
        stmt-alike (verify at c e) = tick-alike (then-alike (must-alike _) λ _. then-alike (expr-alike c) λ v.
            choose-alike v (pure-alike _) (pure-alike _))

        stmts-alike : (ss : Stmts) → RunAlike (run_stmts Γ used calls applied ss) (run_stmts Γ other others elsewhere ss)
        stmts-alike no_stmts = pure-alike _
        stmts-alike (stmt s ss) = then-alike (stmt-alike s) λ e. and-then-alike e (stmts-alike ss)

  module _ (P : Program) where
    keys-alike : (ks : List Key) → RunAlike (run_keys P used calls ks) (run_keys P other others ks)
    unfolding run_keys
    keys-alike [] = pure-alike _
    keys-alike (k ∷ ks) = then-alike (expr-alike _ k.expr) λ v. then-alike (some_alike _) λ w.
        then-alike (keys-alike ks) λ ws. pure-alike _

    action-alike : (T : Table) (position : ℕ) (ns : List ℕ)
        → RunAlike (run_action P used calls T position ns) (run_action P other others T position ns)
    unfolding run_action
    action-alike T position ns = then-alike (some_alike _) λ a. then-alike (some_alike _) λ c.
        then-alike (must-alike _) λ _. then-alike (on-store-alike (same a.number ns)) λ r. pure-alike _

    found_alike : (T : Table) (x : Found) → RunAlike (run_found P used calls T x) (run_found P other others T x)
    unfolding run_found
    found_alike T (found e) = action-alike T _ _
    found_alike T nothing = action-alike T _ _

    pub table-alike : (entries : List Entry) (t : ℕ)
        → RunAlike (run_table P used calls entries t) (run_table P other others entries t)
    unfolding run_table
    table-alike entries t = then-alike (some_alike _) λ T. then-alike (keys-alike T.keys) λ ks.
        then-alike (must-alike _) λ _. found_alike T _

    selected-alike : {later elsewhere : ℕ → M State Ending} → ((m : ℕ) → RunAlike (later m) (elsewhere m)) → (n : ℕ)
        (ps : List Pair) → RunAlike (selected later n ps) (selected elsewhere n ps)
    unfolding selected
    selected-alike h n [] = pure-alike _
    selected-alike h n (p ∷ ps) = branch-alike (eqb n p.value.number) (h p.state.number) (selected-alike h n ps)

    transition-alike : {later elsewhere : ℕ → M State Ending} → ((m : ℕ) → RunAlike (later m) (elsewhere m))
        → (t : Transition) → RunAlike (run_transition P used calls later t) (run_transition P other others elsewhere t)
    unfolding run_transition
    transition-alike h no_transition = pure-alike _
    transition-alike h accept = pure-alike _
    transition-alike h (reject e) = pure-alike _
    transition-alike h (lead_to s) = h s.number
    transition-alike h (select at e ps) = then-alike (expr-alike _ e) λ v. then-alike (some_alike _) λ k.
        then-alike (must-alike _) λ _. selected-alike h k.number ps

    from-alike : (n : ℕ) (ss : List ParserState) (m : ℕ)
        → RunAlike (run_from P used calls n ss m) (run_from P other others n ss m)
    unfolding run_from run_state
    from-alike n [] m = nowhere-alike
    from-alike n (s ∷ ss) m = branch-alike (eqb m n) (tick-alike (then-alike (stmt-alike _ _ _ (λ t. nowhere-alike)
        s.body) λ e. and-then-alike e (transition-alike (from-alike (suc n) ss) s.transition)))
        (from-alike (suc n) ss m)

    pub parser-alike : (ss : List ParserState) → RunAlike (run_parser P used calls ss) (run_parser P other others ss)
    unfolding run_parser
    parser-alike [] = pure-alike onward
    parser-alike (s ∷ ss) = from-alike 0 (s ∷ ss) 0
