-- Soundness of apply: a table that is well formed, with entries that fit it, runs within its ceiling.
use mathlib.Core.Path.{◌≡◌, refl}
use mathlib.Core.Bool.{Bool, true, false, ◌&&◌, false≢true}
use mathlib.Core.Option.{Option, none, some}
use Prim.Native.Nat.{ℕ, zero, suc, ◌<◌, ◌≤◌}
use native.Mathlib.Omega.{arith}
use mathlib.Core.List.{List, [], ◌∷◌, map}
use lib.Dec.{eqb}
use lib.ListN.{get_elem?, length}
use borrow.Author.Tests.{eqb-true, lt-ltb}
use Rattle.rules.specs.Syntax.{Ty, bool, bits, Value, Parameter, Callable, Numeral, Key, Table, Program}
use Rattle.rules.specs.Form.{Res, ok, fault, ◌>>=◌, and_look, only_if, fits, callable_below, in_apply, is_function, is_state, may_leave, apply_scope, width_at, judge_expr, judge_actions, judge_keys, keys_are_bits, literals_fit, one_lpm, listable, judge_listed, judge_table}
use Rattle.rules.specs.Ceiling.{ceiling_keys, largest_of, ceiling_table}
use Rattle.rules.specs.Lists.{Entry, width_of, key_width, action_at}
use Rattle.rules.specs.Running.{State, Calls, arguments_fit, patterns_fit, arguments_given, matches_all, Found, found, nothing, beats, better, look_up, longest_wins, entries_of, Worked, worked, is_fine, entries_fit, run_keys, run_action, run_found, run_table, after_call, must}
use Rattle.rules.specs.Running as Running
use Rattle.rules.proofs.Predicates.{and_both, both_true, All2, nil, cons, All, none_left, also, IfOk, is_ok, is_fault, IfSome, if_none, if_some, SomeOf, is_some, ok-then, ok-map, ok-self, ok-and, ok-found, ok-need, from_some, if-map, look-fits, Runs, at_most, runs_then, runs-pure, runs-some, runs-must, runs-le, runs-known, runs-holds}
use Rattle.rules.proofs.Fits.{HasTy, has, FitParameter, StateFits}
use Rattle.rules.proofs.Sound.{EndOk, CallsOk, on-store, after-call, sound-expr}

-- an entry that fits its table
abbrev pub EntryOk : Program → Entry → Type 0
EntryOk P e = (T : Table) → get_elem? P.tables e.table ≡ some T
    → (patterns_fit (map (key_width P) T.keys) e.patterns ≡ true) × (arguments_given (action_at P T e.position)
    e.arguments ≡ true)

fitting : (P : Program) (t : ℕ) (T : Table) → get_elem? P.tables t ≡ some T → {es : List Entry} → All (EntryOk P) es
    → entries_fit P T (map (key_width P) T.keys) (entries_of t es) ≡ true
unfolding entries_fit entries_of
fitting P t T e none_left = refl
fitting P t T e (also {a = x} {xs = es} h hs) = go (eqb x.table t) refl (fitting P t T e hs)
  where
    go : (b : Bool) → eqb x.table t ≡ b → entries_fit P T (map (key_width P) T.keys) (entries_of t es) ≡ true
        → entries_fit P T (map (key_width P) T.keys)
        (elim b [ true ↦ x ∷ entries_of t es | false ↦ entries_of t es ]) ≡ true
    go true q rest = let fit = h T (rw (eqb-true x.table t q) e) in
        both_true _ _ fit.0 (both_true _ _ fit.1 rest)
    go false q rest = rest

-- an entry that is found is one that can act
data FoundOk (P : Program) (T : Table) : Found → Type 0 where
  found_ok : {e : Entry} → arguments_given (action_at P T e.position) e.arguments ≡ true → FoundOk P T (found e)
  nothing_ok : FoundOk P T nothing

better-ok : (P : Program) (T : Table) (longest : Bool) {b : Found} → FoundOk P T b → (e : Entry)
    → arguments_given (action_at P T e.position) e.arguments ≡ true → FoundOk P T (better longest b e)
unfolding better
better-ok P T longest nothing_ok e h = found_ok h
better-ok P T longest (found_ok {e = b} g) e h = go (beats longest e b)
  where
    go : (x : Bool) → FoundOk P T (elim x [ true ↦ found e | false ↦ found b ])
    go true = found_ok h
    go false = found_ok g

look-up-ok : (P : Program) (T : Table) (longest : Bool) (ks : List Worked) (widths : List ℕ) (b : Found)
    → FoundOk P T b → (es : List Entry) → entries_fit P T widths es ≡ true → FoundOk P T (look_up longest ks b es)
unfolding look_up entries_fit
look-up-ok P T longest ks widths b h [] e = h
look-up-ok P T longest ks widths b h (x ∷ es) e = go (matches_all ks x.patterns) (look-up-ok P T longest ks widths
    (better longest b x) (better-ok P T longest h x acts.0) es acts.1) (look-up-ok P T longest ks widths b h es
    acts.1)
  where
    acts : (arguments_given (action_at P T x.position) x.arguments ≡ true) × (entries_fit P T widths es ≡ true)
    acts = and_both _ _ (and_both (patterns_fit widths x.patterns) _ e).1

    go : (y : Bool) → FoundOk P T (look_up longest ks (better longest b x) es) → FoundOk P T (look_up longest ks b es)
        → FoundOk P T (elim y [ true ↦ look_up longest ks (better longest b x) es | false ↦ look_up longest ks b es ])
    go true p q = p
    go false p q = q

-- listed actions: each names a callable that a table may list
abbrev Lists : Program → Numeral → Callable → Type 0
Lists P a c = get_elem? P.callables a.number ≡ some c

abbrev Listed : Program → Numeral → Callable → Type 0
Listed P a c = (get_elem? P.callables a.number ≡ some c) × (listable c ≡ true)

actions-ok : (P : Program) (ns : List Numeral) → IfOk (All2 (Lists P) ns) (judge_actions P ns)
unfolding judge_actions
actions-ok P [] = is_ok nil
actions-ok P (a ∷ ns) = ok-then (ok-found a.at (get_elem? P.callables a.number)) λ c e.
    ok-then (actions-ok P ns) λ cs h. is_ok (cons e h)

listed_ok : (P : Program) {ns : List Numeral} {cs : List Callable} → All2 (Lists P) ns cs → IfOk (λ _.
    All2 (Listed P) ns cs) (judge_listed ns cs)
unfolding judge_listed
listed_ok P nil = is_ok nil
listed_ok P (cons {a} {b = c} e h) = ok-then (ok-need 8 a.at (listable c)) λ _ q. ok-map (listed_ok P h) λ _ k.
    cons (e, q) k

look-back : {A B : Type 0} {R : A → B → Type 0} {xs : List A} {ys : List B} → All2 R xs ys → (i : ℕ) → IfSome (λ b.
    SomeOf (λ a. R a b) (get_elem? xs i)) (get_elem? ys i)
look-back nil i = if_none
look-back (cons r rs) zero = if_some (is_some r)
look-back (cons r rs) (suc i) = look-back rs i

-- arguments that fit
pub arguments-fit : (ps : List Parameter) (ns : List ℕ) → arguments_fit ps ns ≡ true → All2 FitParameter ps ns
unfolding arguments_fit
arguments-fit [] [] e = nil
arguments-fit [] (n ∷ ns) e = absurd (false≢true e)
arguments-fit (p ∷ ps) [] e = absurd (false≢true e)
arguments-fit (p ∷ ps) (n ∷ ns) e = let q = and_both (fits p.ty n) (arguments_fit ps ns) e in
    cons q.0 (arguments-fit ps ns q.1)

suc-same : {n m : ℕ} → suc n ≡ suc m → n ≡ m
suc-same e = omega arith

literals-fit : (ps : List Parameter) (ns : List Numeral) → length ns ≡ length ps → IfOk (λ _. arguments_fit ps (map (λ n.
    n.number) ns) ≡ true) (literals_fit ps ns)
unfolding literals_fit arguments_fit
literals-fit [] [] e = is_ok refl
literals-fit [] (n ∷ ns) e = absurd (omega arith)
literals-fit (p ∷ ps) [] e = absurd (omega arith)
literals-fit (p ∷ ps) (n ∷ ns) e = ok-then (ok-need 7 n.at (fits p.ty n.number)) λ _ q.
    ok-map (literals-fit ps ns (suc-same e)) λ _ h. both_true _ _ q h

-- a member's ceiling is at most the largest
member-most : (callee : ℕ → ℕ) (ns : List Numeral) (i : ℕ) → IfSome (λ a.
    callee a.number ≤ largest_of callee ns) (get_elem? ns i)
unfolding largest_of
member-most callee [] i = if_none
member-most callee (a ∷ ns) zero = if_some {a = a} (omega arith)
member-most callee (a ∷ ns) (suc i) = if-map (member-most callee ns i) λ b h. omega arith

below_length : {A : Type 0} (xs : List A) (i : ℕ) → IfSome (λ _. i < length xs) (get_elem? xs i)
below_length [] i = if_none
below_length (x ∷ xs) zero = if_some (omega arith)
below_length (x ∷ xs) (suc i) = if-map (below_length xs i) λ _ h. omega arith

reached : (P : Program) (f : ℕ) (c : Callable) → get_elem? P.callables f ≡ some c
    → callable_below P (length P.callables) f ≡ some c
unfolding callable_below only_if
reached P f c e = rw (lt-ltb f (length P.callables) (from_some (rw e at (below_length P.callables f)))) e

pub fine-ok : {A : Type 0} (r : Res A) → IfOk (λ _. is_fine r ≡ true) r
unfolding is_fine
fine-ok (ok a) = is_ok refl
fine-ok (fault n at) = is_fault

pub worked-ok : {w : ℕ} {v : Value} → HasTy (bits w) v → SomeOf (λ k. k.width ≡ w) (worked v)
unfolding worked
worked-ok (has h) = is_some refl

some-found-two : {A : Type 0} {Q R : A → Type 0} {o : Option A} → SomeOf Q o → IfSome R o
    → (a : A) × (o ≡ some a) × Q a × R a
some-found-two (is_some {a} q) (if_some r) = (a, refl, q, r)

-- the action at a position, with what is known of it
abbrev Acting : Program → List ℕ → Numeral → Type 0
Acting P ns a = (c : Callable) × (get_elem? P.callables a.number ≡ some c) × (listable c ≡ true) × (arguments_fit
    c.parameters ns ≡ true)

acting : (P : Program) (ns : List ℕ) (o : Option Numeral) {x : Option Callable} → IfSome (λ a. SomeOf (Listed P a) x) o
    → arguments_given (and_look o λ a. get_elem? P.callables a.number) ns ≡ true → SomeOf (Acting P ns) o
unfolding arguments_given and_look
acting P ns none h g = absurd (false≢true g)
acting P ns (some a) (if_some (is_some {a = c} l)) g = is_some (c, l.0, l.1, rw l.0 at g)

default-acts : (P : Program) (c : Callable) (ns : List ℕ) {o : Option Numeral} → SomeOf (λ a. Lists P a c) o
    → arguments_fit c.parameters ns ≡ true → arguments_given (and_look o λ a.
    get_elem? P.callables a.number) ns ≡ true
unfolding arguments_given and_look
default-acts P c ns (is_some e) a = rw e a

no-fault : {A : Type 0} {a : A} {n at : ℕ} → fault n at ≡ ok a → ⊥
no-fault e = let z : ◌≡◌ {A = ℕ} 0 1 = cc in omega arith

bits-then : (at : ℕ) (t : Ty) (r : Res (Unit {0})) → (width_at at t >>= λ _. r) ≡ ok tt
    → (w : ℕ) × (t ≡ bits w) × (r ≡ ok tt)
unfolding width_at ◌>>=◌
bits-then at bool r e = absurd (no-fault e)
bits-then at (bits w) r e = (w, refl, e)

width_is : (P : Program) (k : Key) (t : Ty) (w : ℕ) → judge_expr (apply_scope P) k.expr ≡ ok t → t ≡ bits w
    → key_width P k ≡ w
unfolding key_width width_of
width_is P k t w e q = rw (e, q)

module _ (P : Program) (used : ℕ) (calls : Calls) (callee : ℕ
    → ℕ) (calls-ok : CallsOk P (length P.callables) calls callee) where
  abbrev Fine : State → Type 0
  Fine = StateFits (apply_scope P)

  keys-ok : (ks : List Key) → IfOk (λ ts. keys_are_bits ks ts ≡ ok tt → Runs ◌≤◌ Fine (λ ws. map (λ w.
      w.width) ws ≡ map (key_width P) ks) (ceiling_keys callee ks) (run_keys P used calls ks)) (judge_keys
      (apply_scope P) ks)
  unfolding judge_keys keys_are_bits ceiling_keys run_keys apply_scope
  keys-ok [] = is_ok λ _. runs-pure at_most _ refl
  keys-ok (k ∷ ks) = ok-then (ok-and (ok-self (judge_expr (apply_scope P) k.expr)) (sound-expr
      (apply_scope P) used calls callee calls-ok k.expr)) λ t h. ok-then (keys-ok ks) λ ts hk. is_ok λ e.
      let b = bits-then (suc k.at) t (keys_are_bits ks ts) e in
      runs-le (omega arith) (runs_then at_most h.1 λ v hv.
      runs_then at_most (runs-some at_most (worked-ok (rw b.1 at hv))) λ w hw.
      runs_then at_most (hk b.2) λ ws hws. runs-pure at_most (w ∷ ws) (cc (width_is P k t b.0 h.0 b.1)))

  -- the keys of a table that is well formed have the widths that the judge finds
  pub keys-wide : (T : Table) → IfOk (λ _. Runs ◌≤◌ Fine (λ ws. map (λ w. w.width) ws ≡ map (key_width P) T.keys)
      (ceiling_keys callee T.keys) (run_keys P used calls T.keys)) (judge_table P T)
  unfolding judge_table
  keys-wide T = ok-then (ok-self (judge_actions P T.actions)) λ cs _. ok-then (ok-self _) λ c _.
      ok-then (keys-ok T.keys) λ ts h. ok-then (ok-self (keys_are_bits T.keys ts)) λ _ e.
      ok-then (ok-self _) λ _ _. ok-then (ok-self (literals_fit c.parameters T.arguments)) λ _ _.
      ok-then (ok-self (one_lpm false T.keys)) λ _ _. ok-map (ok-self (judge_listed T.actions cs)) λ _ _. h e

  -- an action of the table, on numbers that fit it
  action-runs : (f : ℕ) (c : Callable) → get_elem? P.callables f ≡ some c → listable c ≡ true → (ns : List ℕ)
      → arguments_fit c.parameters ns ≡ true
      → Runs ◌≤◌ Fine (EndOk in_apply false) (callee f) (Running.◌>>=◌ (must (listable c && arguments_fit
      c.parameters ns)) λ _. Running.◌>>=◌ (Running.on_store (calls used f ns)) λ r.
      Running.pure (after_call r.0))
  unfolding apply_scope is_function is_state may_leave
  action-runs f c e l ns a = runs-le (omega arith) (runs_then at_most (runs-must at_most _ (both_true _ _ l a)) λ _ _.
      runs_then at_most (on-store (apply_scope P) ((from_some (rw (reached P f c e) at (calls-ok f))) used ns
      (arguments-fit c.parameters ns a))) λ r hr. runs-pure at_most _ (after-call in_apply c.returns hr.0 λ _. refl))

  action-ok : (T : Table) {cs : List Callable} → All2 (Listed P) T.actions cs → (position : ℕ) (ns : List ℕ)
      → arguments_given (action_at P T position) ns ≡ true
      → Runs ◌≤◌ Fine (EndOk in_apply false) (largest_of callee T.actions) (run_action P used calls T position ns)
  unfolding run_action action_at
  action-ok T listed position ns g =
      let (a, e, acts, most) = some-found-two (acting P ns (get_elem? T.actions position)
      (look-fits listed position) g) (member-most callee T.actions position) in
      runs-known a e λ x q. rw q (runs-known acts.0 acts.1 λ y p.
      rw p (runs-le most (action-runs a.number acts.0 acts.1 acts.2 ns acts.3)))

  found-ok : (T : Table) {cs : List Callable} → All2 (Listed P) T.actions cs
      → arguments_given (action_at P T T.default.number) (map (λ n. n.number) T.arguments) ≡ true → {b : Found}
      → FoundOk P T b
      → Runs ◌≤◌ Fine (EndOk in_apply false) (largest_of callee T.actions) (run_found P used calls T b)
  unfolding run_found
  found-ok T listed d (found_ok {e} g) = action-ok T listed e.position e.arguments g
  found-ok T listed d nothing_ok = action-ok T listed T.default.number (map (λ n. n.number) T.arguments) d

  pub table-ok : (entries : List Entry) → All (EntryOk P) entries → (t : ℕ) (T : Table)
      → get_elem? P.tables t ≡ some T
      → IfOk (λ _. Runs ◌≤◌ Fine (EndOk in_apply false) (ceiling_table callee (some T))
      (run_table P used calls entries t)) (judge_table P T)
  unfolding judge_table run_table ceiling_table action_at
  table-ok entries fit t T e = ok-then (actions-ok P T.actions) λ cs lists.
      ok-then (ok-found T.default.at (get_elem? cs T.default.number)) λ c d.
      ok-then (keys-ok T.keys) λ ts hk. ok-then (ok-self (keys_are_bits T.keys ts)) λ _ hb.
      ok-then (ok-need 7 T.count_at (eqb (length T.arguments) (length c.parameters))) λ _ n.
      ok-then (literals-fit c.parameters T.arguments (eqb-true (length T.arguments) (length
      c.parameters) n)) λ _ a.
      ok-then (fine-ok (one_lpm false T.keys)) λ _ f. ok-map (listed_ok P lists) λ _ listed.
      runs-known T e λ x q. rw q (runs_then at_most (hk hb) λ ws hws.
      rw hws (runs-holds _ (both_true _ _ f (fitting P t T e fit))
      (found-ok T listed (default-acts P c _ (from_some (rw d at (look-back lists T.default.number))) a)
      (look-up-ok P T (longest_wins T.keys) ws (map (key_width P) T.keys) nothing nothing_ok (entries_of t entries)
      (fitting P t T e fit)))))
