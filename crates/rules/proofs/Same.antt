-- Answers that say the same numbers are the same: so a promise about the numbers of an answer determines it.
use Rattle.std.specs.Prelude.{Result, Ok, Err}
use mathlib.Core.Path.{◌≡◌, refl, sym, ap}
use mathlib.Core.Option.{some}
use mathlib.Core.List.{List, [], ◌∷◌}
use lib.ListN.{get_elem?}
use Prim.Native.Nat.{ℕ}
use native.Mathlib.Omega.{arith}
use Rattle.rules.specs.declared.Reason.{Reason}
use Rattle.rules.specs.declared.Reason.TheVariants as reason
use Rattle.rules.specs.declared.Refusal.{Refusal}
use Rattle.rules.specs.declared.Acceptance.{Acceptance}
use Rattle.rules.specs.declared.Signal.{Signal}
use Rattle.rules.specs.declared.Signal.TheVariants.{Done, Exit, Reject}
use Rattle.rules.specs.declared.Finished.{Finished}
use Rattle.rules.specs.Answers.{number_of, of_refusal, of_read, of_write, of_judge, of_signal, of_run}

-- the reasons by their numbers; 0, 14 and 15 are of none, and Size stands there
reasons : List Reason
reasons =
    reason.Size ∷ reason.Size ∷ reason.CutOff ∷ reason.Overlong ∷ reason.Unlisted ∷ reason.TooDeep ∷ reason.Unnamed ∷ reason.Type ∷ reason.Form
    ∷ reason.Ceiling ∷ reason.Entries ∷ reason.Store ∷ reason.LeftOver ∷ reason.Room ∷ reason.Size ∷ reason.Size ∷ reason.Packet ∷ []

by_number : (r : Reason) → get_elem? reasons (number_of r) ≡ some r
unfolding reasons
by_number reason.Size = refl
by_number reason.CutOff = refl
by_number reason.Overlong = refl
by_number reason.Unlisted = refl
by_number reason.TooDeep = refl
by_number reason.Unnamed = refl
by_number reason.Type = refl
by_number reason.Form = refl
by_number reason.Ceiling = refl
by_number reason.Entries = refl
by_number reason.Store = refl
by_number reason.LeftOver = refl
by_number reason.Room = refl
by_number reason.Packet = refl

pub reason-same : (a b : Reason) → number_of a ≡ number_of b → a ≡ b
reason-same a b e = let p = by_number a in let q = by_number b in let r = ap (get_elem? reasons) e in cc

pub refusal-same : (a b : Refusal) → of_refusal a ≡ of_refusal b → a ≡ b
unfolding of_refusal
refusal-same a b e =
    let m : number_of a.reason ≡ number_of b.reason = cc in
    let n : a.reason ≡ b.reason = reason-same a.reason b.reason m in
    let p : a.place ≡ b.place = cc in
    λ i. record { reason = n i; place = p i }

pub read_same : (a b : Result ℕ Refusal) → of_read a ≡ of_read b → a ≡ b
unfolding of_read of_refusal
read_same (Ok m) (Ok n) e = ap Ok (cc)
read_same (Ok m) (Err b) e = let z : ◌≡◌ {A = ℕ} 0 1 = cc in absurd (omega arith)
read_same (Err a) (Ok n) e = let z : ◌≡◌ {A = ℕ} 0 1 = cc in absurd (omega arith)
read_same (Err a) (Err b) e = ap Err (refusal-same a b e)

pub write_same : (a b : Result ℕ Refusal) → of_write a ≡ of_write b → a ≡ b
unfolding of_write of_refusal
write_same (Ok m) (Ok n) e = ap Ok (cc)
write_same (Ok m) (Err b) e = let z : ◌≡◌ {A = ℕ} 0 1 = cc in absurd (omega arith)
write_same (Err a) (Ok n) e = let z : ◌≡◌ {A = ℕ} 0 1 = cc in absurd (omega arith)
write_same (Err a) (Err b) e = ap Err (refusal-same a b e)

pub judge-same : (a b : Result Acceptance Refusal) → of_judge a ≡ of_judge b → a ≡ b
unfolding of_judge of_refusal
judge-same (Ok a) (Ok b) e =
    let c : a.ceiling ≡ b.ceiling = cc in
    let l : a.length ≡ b.length = cc in
    ap Ok (λ i. record { ceiling = c i; length = l i })
judge-same (Ok a) (Err b) e = let z : ◌≡◌ {A = ℕ} 0 1 = cc in absurd (omega arith)
judge-same (Err a) (Ok b) e = let z : ◌≡◌ {A = ℕ} 0 1 = cc in absurd (omega arith)
judge-same (Err a) (Err b) e = ap Err (refusal-same a b e)

-- two finished runs, by their signals
finished-same : (s t : Signal) (n c l m d k : ℕ)
    → of_run (Ok (record { signal = s; steps = n; ceiling = c; length = l }))
    ≡ of_run (Ok (record { signal = t; steps = m; ceiling = d; length = k }))
    → (s ≡ t) × (n ≡ m) × (c ≡ d) × (l ≡ k)
unfolding of_run of_signal
finished-same Done Done n c l m d k e = (refl, cc, cc, cc)
finished-same Done Exit n c l m d k e = let z : ◌≡◌ {A = ℕ} 1 2 = cc in absurd (omega arith)
finished-same Done (Reject y) n c l m d k e = let z : ◌≡◌ {A = ℕ} 1 4 = cc in absurd (omega arith)
finished-same Exit Done n c l m d k e = let z : ◌≡◌ {A = ℕ} 2 1 = cc in absurd (omega arith)
finished-same Exit Exit n c l m d k e = (refl, cc, cc, cc)
finished-same Exit (Reject y) n c l m d k e = let z : ◌≡◌ {A = ℕ} 2 4 = cc in absurd (omega arith)
finished-same (Reject x) Done n c l m d k e = let z : ◌≡◌ {A = ℕ} 4 1 = cc in absurd (omega arith)
finished-same (Reject x) Exit n c l m d k e = let z : ◌≡◌ {A = ℕ} 4 2 = cc in absurd (omega arith)
finished-same (Reject x) (Reject y) n c l m d k e = (cc, cc, cc, cc)

signal-refused : (s : Signal) (n c l : ℕ) (r : Refusal)
    → of_run (Ok (record { signal = s; steps = n; ceiling = c; length = l })) ≡ of_run (Err r) → ⊥
unfolding of_run of_signal of_refusal
signal-refused Done n c l r e = let z : ◌≡◌ {A = ℕ} 1 0 = cc in omega arith
signal-refused Exit n c l r e = let z : ◌≡◌ {A = ℕ} 2 0 = cc in omega arith
signal-refused (Reject x) n c l r e = let z : ◌≡◌ {A = ℕ} 4 0 = cc in omega arith

pub run-same : (a b : Result Finished Refusal) → of_run a ≡ of_run b → a ≡ b
unfolding of_run
run-same (Ok a) (Ok b) e =
    let p = finished-same a.signal b.signal a.steps a.ceiling a.length b.steps b.ceiling b.length e in
    ap Ok (λ i. record { signal = p.0 i; steps = p.1 i; ceiling = p.2 i; length = p.3 i })
run-same (Ok a) (Err b) e = absurd (signal-refused a.signal a.steps a.ceiling a.length b e)
run-same (Err a) (Ok b) e = absurd (signal-refused b.signal b.steps b.ceiling b.length a (sym e))
run-same (Err a) (Err b) e = ap Err (refusal-same a b e)
