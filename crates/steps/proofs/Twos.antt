-- Expressions with two operands: whether the first settles them, and what they make of both.
use mathlib.Core.Bool.{Bool, false}
use mathlib.Core.Option.{some}
use mathlib.Core.Path.{◌≡◌, refl, ◌∙◌, sym}
use mathlib.Core.List.{List}
use Prim.Native.Nat.{ℕ, zero, suc, ◌+◌, ◌≤◌, ◌<◌, ◌^◌}
use native.Mathlib.Omega.{arith}
use lib.Dec.{eqb}
use lib.ListN.{length, get_or}
use Rattle.rules.specs.Syntax.{Ty, bool, bits, Value, value, plus, minus, times, and, or, xor, less, less_or_equal, shift_left, shift_right, equal, unequal, both, either}
use Rattle.rules.specs.Syntax.{Operator, arithmetic, order, shift, equality, logic, Place, local, parameter, global, field, Expr, binary, concatenation}
use Rattle.rules.specs.Running.{concatenation_on, a_bool}
use Rattle.program.specs.Codes.{ty_of, operator_number, place_tag}
use Rattle.program.specs.Stands.{Holds, StandsExpr, on_bool, on-bits, on-place, on-valid, on-not, on-complement, on-binary, on-cast, on-slice, on-concatenation, on_call}
use Rattle.program.proofs.Views.{expr-begins}
use Rattle.values.specs.Claims.{value_of, IsValue, Gives, AsksTwo, AsksBinary, GivesBinary, binary_on}
use Rattle.steps.proofs.Ones.{nothing}
use Rattle.steps.specs.Operands.{settles, settled_by, operator_on, stops_at, on_two, AsksStop, TellsStop, AsksTwoOn, GivesTwo}

-- an expression is a binary one at its operator, or has another tag and is not settled early
pub data Stops (nums : List ℕ) (at : ℕ) : ℕ → Expr → Type 0 where
  is-binary : {o : Operator} {a b : Expr} → Holds nums (at + 1) (operator_number o)
      → Stops nums at 9 (binary at o a b)
  is-other : {tag : ℕ} {e : Expr} → (tag ≡ 9 → ⊥) → ((v : Value) → stops_at e v ≡ false) → Stops nums at tag e

not-nine : (p : Place) → place_tag p ≡ 9 → ⊥
unfolding place_tag
not-nine (local i) q = omega (arith, q)
not-nine (parameter i) q = omega (arith, q)
not-nine (global g) q = omega (arith, q)
not-nine (field g f) q = omega (arith, q)

stops-of : {nums ends : List ℕ} {depth at : ℕ} {e : Expr} → StandsExpr nums ends depth at e
    → Stops nums at (get_or nums at 0) e
unfolding stops_at
stops-of (on_bool t n) = rw t.holds.is (is-other {tag = 0} (λ q. absurd (omega (arith, q))) λ v. refl)
stops-of (on-bits t w n) = rw t.holds.is (is-other {tag = 1} (λ q. absurd (omega (arith, q))) λ v. refl)
stops-of (on-place {p = p} t w) = rw t.holds.is (is-other {tag = place_tag p} (not-nine p) λ v. refl)
stops-of (on-valid t g) = rw t.holds.is (is-other {tag = 6} (λ q. absurd (omega (arith, q))) λ v. refl)
stops-of (on-not t a) = rw t.holds.is (is-other {tag = 7} (λ q. absurd (omega (arith, q))) λ v. refl)
stops-of (on-complement t a) = rw t.holds.is (is-other {tag = 8} (λ q. absurd (omega (arith, q))) λ v. refl)
stops-of (on-binary t o a b) = rw t.holds.is (is-binary o)
stops-of (on-cast t w a) = rw t.holds.is (is-other {tag = 10} (λ q. absurd (omega (arith, q))) λ v. refl)
stops-of (on-slice t h l a) = rw t.holds.is (is-other {tag = 11} (λ q. absurd (omega (arith, q))) λ v. refl)
stops-of (on-concatenation t a b) = rw t.holds.is (is-other {tag = 12} (λ q. absurd (omega (arith, q))) λ v. refl)
stops-of (on_call t f n xs) = rw t.holds.is (is-other {tag = 13} (λ q. absurd (omega (arith, q))) λ v. refl)

-- the operators that stop early are 12 and 13
settled-zero : (o : Operator) (t : Ty) → eqb (operator_number o) 12 ≡ settled_by o (value t 0)
unfolding operator_number settled_by settles
settled-zero (arithmetic plus) t = refl
settled-zero (arithmetic minus) t = refl
settled-zero (arithmetic times) t = refl
settled-zero (arithmetic and) t = refl
settled-zero (arithmetic or) t = refl
settled-zero (arithmetic xor) t = refl
settled-zero (order less) t = refl
settled-zero (order less_or_equal) t = refl
settled-zero (shift shift_left) t = refl
settled-zero (shift shift_right) t = refl
settled-zero (equality equal) t = refl
settled-zero (equality unequal) t = refl
settled-zero (logic both) t = refl
settled-zero (logic either) t = refl

settled-more : (o : Operator) (t : Ty) (n : ℕ) → eqb (operator_number o) 13 ≡ settled_by o (value t (suc n))
unfolding operator_number settled_by settles
settled-more (arithmetic plus) t n = refl
settled-more (arithmetic minus) t n = refl
settled-more (arithmetic times) t n = refl
settled-more (arithmetic and) t n = refl
settled-more (arithmetic or) t n = refl
settled-more (arithmetic xor) t n = refl
settled-more (order less) t n = refl
settled-more (order less_or_equal) t n = refl
settled-more (shift shift_left) t n = refl
settled-more (shift shift_right) t n = refl
settled-more (equality equal) t n = refl
settled-more (equality unequal) t n = refl
settled-more (logic both) t n = refl
settled-more (logic either) t n = refl

module _ (nums : List ℕ) (at ty number : ℕ) where
  zero-told : {tag : ℕ} {e : Expr} → Stops nums at tag e → tag ≡ 9 → number ≡ 0
      → eqb (get_or nums (at + 1) 0) 12 ≡ stops_at e (value_of ty number)
  unfolding stops_at value_of
  zero-told (is-binary {o = o} h) q z = rw (h.is, z) (settled-zero o (ty_of ty))
  zero-told (is-other x y) q z = absurd (x q)

  more-told : {tag : ℕ} {e : Expr} → Stops nums at tag e → tag ≡ 9 → (number ≡ 0 → ⊥)
      → eqb (get_or nums (at + 1) 0) 13 ≡ stops_at e (value_of ty number)
  unfolding stops_at value_of
  more-told (is-binary {o = o} h) q z = rw h.is (go number z)
    where
      go : (n : ℕ) → (n ≡ 0 → ⊥) → eqb (operator_number o) 13 ≡ settled_by o (value (ty_of ty) n)
      go zero w = absurd (w refl)
      go (suc n) w = settled-more o (ty_of ty) n
  more-told (is-other x y) q z = absurd (x q)

  other-told : {tag : ℕ} {e : Expr} → Stops nums at tag e → (tag ≡ 9 → ⊥) → false ≡ stops_at e (value_of ty number)
  other-told (is-binary h) q = absurd (q refl)
  other-told (is-other x y) q = sym (y (value_of ty number))

  pub tells-zero : (r : Bool) → get_or nums at 0 ≡ 9 → number ≡ 0 → r ≡ eqb (get_or nums (at + 1) 0) 12
      → TellsStop nums at ty number r
  tells-zero r q z e = record { tells = λ ends depth x w. e ∙ zero-told (stops-of w) q z }

  pub tells_more : (r : Bool) → get_or nums at 0 ≡ 9 → (number ≡ 0 → ⊥) → r ≡ eqb (get_or nums (at + 1) 0) 13
      → TellsStop nums at ty number r
  tells_more r q z e = record { tells = λ ends depth x w. e ∙ more-told (stops-of w) q z }

  pub tells-other : (get_or nums at 0 ≡ 9 → ⊥) → TellsStop nums at ty number false
  tells-other q = record { tells = λ ends depth x w. other-told (stops-of w) q }

module _ (nums : List ℕ) (at : ℕ) where
  operator-inside : {tag : ℕ} {e : Expr} → Stops nums at tag e → tag ≡ 9 → at + 1 < length nums
  operator-inside (is-binary h) q = h.inside
  operator-inside (is-other x y) q = absurd (x q)

  pub stop-inside : AsksStop nums at → at < length nums
  stop-inside a = (expr-begins a.stands).inside

  pub stop-next : AsksStop nums at → at + 1 < 2 ^ 64
  stop-next a = omega (arith, stop-inside a, a.numbers)

  pub stop-operator : AsksStop nums at → get_or nums at 0 ≡ 9 → at + 1 < length nums
  stop-operator a q = operator-inside (stops-of a.stands) q

pub ruleset stops = (stop-next, tells-zero, tells_more, tells-other, stop-inside, stop-operator)

-- an expression with two operands: an operator that needs both, both or either, a concatenation
pub data TwoOf (nums : List ℕ) (at : ℕ) (v u : Value) : ℕ → Expr → Type 0 where
  is-operator : {o : Operator} {a b : Expr} → Holds nums (at + 1) (operator_number o) → operator_number o < 12
      → operator_on o v u ≡ binary_on o v u → TwoOf nums at v u 9 (binary at o a b)
  is-logic : {o : Operator} {a b : Expr} → Holds nums (at + 1) (operator_number o) → 12 ≤ operator_number o
      → operator_on o v u ≡ a_bool u → TwoOf nums at v u 9 (binary at o a b)
  is-joined : {a b : Expr} → TwoOf nums at v u 12 (concatenation at a b)

module _ (nums : List ℕ) (at : ℕ) (v u : Value) where
  operator-of : (o : Operator) {a b : Expr} → Holds nums (at + 1) (operator_number o) → TwoOf nums at v u 9 (binary at o a b)
  unfolding operator_number operator_on
  operator-of (arithmetic plus) h = is-operator {o = arithmetic plus} h (omega arith) refl
  operator-of (arithmetic minus) h = is-operator {o = arithmetic minus} h (omega arith) refl
  operator-of (arithmetic times) h = is-operator {o = arithmetic times} h (omega arith) refl
  operator-of (arithmetic and) h = is-operator {o = arithmetic and} h (omega arith) refl
  operator-of (arithmetic or) h = is-operator {o = arithmetic or} h (omega arith) refl
  operator-of (arithmetic xor) h = is-operator {o = arithmetic xor} h (omega arith) refl
  operator-of (order less) h = is-operator {o = order less} h (omega arith) refl
  operator-of (order less_or_equal) h = is-operator {o = order less_or_equal} h (omega arith) refl
  operator-of (shift shift_left) h = is-operator {o = shift shift_left} h (omega arith) refl
  operator-of (shift shift_right) h = is-operator {o = shift shift_right} h (omega arith) refl
  operator-of (equality equal) h = is-operator {o = equality equal} h (omega arith) refl
  operator-of (equality unequal) h = is-operator {o = equality unequal} h (omega arith) refl
  operator-of (logic both) h = is-logic {o = logic both} h (omega arith) refl
  operator-of (logic either) h = is-logic {o = logic either} h (omega arith) refl

  two-of : {ends : List ℕ} {depth : ℕ} {e : Expr} {answer : Value} → StandsExpr nums ends depth at e
      → on_two e v u ≡ some answer → TwoOf nums at v u (get_or nums at 0) e
  unfolding on_two
  two-of (on_bool t n) e = nothing e
  two-of (on-bits t w n) e = nothing e
  two-of (on-place t p) e = nothing e
  two-of (on-valid t g) e = nothing e
  two-of (on-not t a) e = nothing e
  two-of (on-complement t a) e = nothing e
  two-of (on-binary {o = o} t h a b) e = rw t.holds.is (operator-of o h)
  two-of (on-cast t w a) e = nothing e
  two-of (on-slice t h l a) e = nothing e
  two-of (on-concatenation t a b) e = rw t.holds.is is-joined
  two-of (on_call t f n xs) e = nothing e

  pub record OperatorOf (e : Expr) : Type 0 where
    pub of : Operator
    pub numbered : operator_number of ≡ get_or nums (at + 1) 0
    pub is : on_two e v u ≡ binary_on of v u

  operator-is : {tag : ℕ} {e : Expr} → TwoOf nums at v u tag e → tag ≡ 9 → get_or nums (at + 1) 0 < 12 → OperatorOf e
  unfolding on_two
  operator-is (is-operator {o = o} h l e) q z = record { of = o; numbered = sym h.is; is = e }
  operator-is (is-logic h l e) q z = absurd (omega (arith, h.is, l, z))
  operator-is is-joined q z = absurd (omega (arith, q))

  logic-is : {tag : ℕ} {e : Expr} → TwoOf nums at v u tag e → tag ≡ 9 → 12 ≤ get_or nums (at + 1) 0
      → on_two e v u ≡ a_bool u
  unfolding on_two
  logic-is (is-operator h l e) q z = absurd (omega (arith, h.is, l, z))
  logic-is (is-logic h l e) q z = e
  logic-is is-joined q z = absurd (omega (arith, q))

  joined_is : {tag : ℕ} {e : Expr} → TwoOf nums at v u tag e → (tag ≡ 9 → ⊥) → on_two e v u ≡ concatenation_on v u
  unfolding on_two
  joined_is (is-operator h l e) q = absurd (q refl)
  joined_is (is-logic h l e) q = absurd (q refl)
  joined_is is-joined q = refl

  binary-inside : {tag : ℕ} {e : Expr} → TwoOf nums at v u tag e → tag ≡ 9 → at + 1 < length nums
  binary-inside (is-operator h l e) q = h.inside
  binary-inside (is-logic h l e) q = h.inside
  binary-inside is-joined q = absurd (omega (arith, q))

-- a bool is its own truth
bool-given : (ty number : ℕ) (answer : Value) → IsValue ty number → a_bool (value_of ty number) ≡ some answer
    → Gives (a_bool (value_of ty number)) ty number
unfolding value_of
bool-given ty number answer h e = record { given = go (ty_of ty) e; is_value = h }
  where
    go : (t : Ty) → a_bool (value t number) ≡ some answer → a_bool (value t number) ≡ some (value t number)
    go bool q = unfold a_bool in refl
    go (bits width) q = unfold a_bool in nothing q

module _ (nums : List ℕ) (at ty number ty₂ number₂ : ℕ) where
  abbrev first : Value
  first = value_of ty number

  abbrev second : Value
  second = value_of ty₂ number₂

  module _ (a : AsksTwoOn nums at ty number ty₂ number₂) where
    this : TwoOf nums at first second (get_or nums at 0) a.expr
    this = two-of nums at first second a.stands a.answered

    pub two-inside : at < length nums
    two-inside = (expr-begins a.stands).inside

    pub two-next : at + 1 < 2 ^ 64
    two-next = omega (arith, two-inside, a.numbers)

    pub two-operator : get_or nums at 0 ≡ 9 → at + 1 < length nums
    two-operator q = binary-inside nums at first second this q

    pub binary-asks : get_or nums at 0 ≡ 9 → get_or nums (at + 1) 0 < 12
        → AsksBinary (get_or nums (at + 1) 0) ty number ty₂ number₂
    binary-asks q z =
        let w = operator-is nums at first second this q z in
        record {
          of = w.of;
          numbered = w.numbered;
          asks = record {
            first = a.first;
            second = a.second;
            answer = a.answer;
            answered = sym w.is ∙ a.answered;
          };
        }

    pub joined-asks : (get_or nums at 0 ≡ 9 → ⊥) → AsksTwo concatenation_on ty number ty₂ number₂
    joined-asks q = record {
      first = a.first;
      second = a.second;
      answer = a.answer;
      answered = sym (joined_is nums at first second this q) ∙ a.answered;
    }

  pub binary-gives : (ty' number' : ℕ) → get_or nums at 0 ≡ 9 → get_or nums (at + 1) 0 < 12
      → GivesBinary (get_or nums (at + 1) 0) ty number ty₂ number₂ ty' number'
      → GivesTwo nums at ty number ty₂ number₂ ty' number'
  binary-gives ty' number' q z g = record {
    gives = λ ends depth e answer w h k.
        let t = operator-is nums at first second (two-of nums at first second w k) q z in
        record { given = t.is ∙ g.given t.of t.numbered; is_value = g.is_value };
  }

  pub logic-gives : get_or nums at 0 ≡ 9 → 12 ≤ get_or nums (at + 1) 0 → GivesTwo nums at ty number ty₂ number₂ ty₂ number₂
  logic-gives q z = record {
    gives = λ ends depth e answer w h k.
        let same : on_two e first second ≡ a_bool second
        = logic-is nums at first second (two-of nums at first second w k) q z in
        rw same (bool-given ty₂ number₂ answer h (sym same ∙ k));
  }

  pub joined-gives : (ty' number' : ℕ) → (get_or nums at 0 ≡ 9 → ⊥) → Gives (concatenation_on first second) ty' number'
      → GivesTwo nums at ty number ty₂ number₂ ty' number'
  joined-gives ty' number' q g = record {
    gives = λ ends depth e answer w h k. rw (joined_is nums at first second (two-of nums at first second w k) q) g;
  }

pub ruleset twos = (
  two-next,
  two-inside,
  two-operator,
  binary-asks,
  joined-asks,
  binary-gives,
  logic-gives,
  joined-gives,
)
