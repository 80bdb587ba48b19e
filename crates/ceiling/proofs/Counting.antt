-- The steps of the cycle: what each call asks, what each count then is, and what falls.
use mathlib.Core.Bool.{Bool, true, false}
use Rattle.std.specs.Prelude.{Option, Some, None}
use mathlib.Core.Path.{◌≡◌, refl, ◌∙◌}
use mathlib.Core.List.{List}
use Prim.Native.Nat.{ℕ, suc, ◌+◌, ◌-◌, ◌*◌, ◌≤◌, ◌<◌, ◌^◌}
use native.Mathlib.Omega.{arith}
use lib.Dec.{eqb}
use lib.ListN.{length, get_or, set, length-set}
use lib.Seq.{get_or-set_same, get_or-set_other}
use borrow.Author.Tests.{eqb-true, eqb-false}
use Rattle.rules.specs.Syntax.{Expr, Args, no_args, Program}
use Rattle.rules.specs.Reading.{deepest}
use Rattle.rules.specs.Ceiling.{most_steps, ceiling_expr, ceiling_args, ceiling_stmt, no_table}
use Rattle.program.specs.Codes.{arg_count}
use Rattle.program.specs.Stands.{StandsExpr, StandsArgs, StandsStmt}
use Rattle.program.specs.Looks.{Has, Finds, callables_of, FoundFrame}
use Rattle.program.proofs.Views.{expr-begins, ArgView, arg_view, no-args}
use Rattle.program.proofs.Found.{At, member-at}
use Rattle.ceiling.specs.Cut.{cut}
use Rattle.ceiling.specs.Claims.{callee_below, ceiling_number, applied_in, Kept, Setting, Counted, operands_in, called_by, calling}
use Rattle.ceiling.specs.Claims.{AsksHeld, Operand, HeldExpr}
use Rattle.ceiling.specs.Claims.{AsksExpr, CountsExpr, AsksExprs, CountsExprs, AsksCall, CountsCall, AsksStmt, CountsStmt}
use Rattle.ceiling.proofs.Rank.{rank, rank-lower, rank-callee}
use Rattle.ceiling.proofs.Sums.{one-low, cut_low, cut-zero, cut-own, cut-both, cut-more, cut-begin, cut-done, ceil-expr, callee_at, callee-none, number-is}

-- the setting after a count
pub resumed : {nums directory ends kept kept₁ : List ℕ} {reach : ℕ} {P : Program} {exact r : ℕ}
    → Setting nums directory ends kept reach P → Counted P exact r kept₁ → Setting nums directory ends kept₁ reach P
resumed s c = record { end = s.end; stands = s.stands; reaches = s.reaches; keeps = c.keeps }

-- expressions
module _ (nums directory ends kept : List ℕ) (reach depth at : ℕ)
    (a : AsksExpr nums directory ends kept reach depth at) where
  pub expr_held : AsksHeld nums ends depth at
  expr_held = record {
    numbers = a.setting.stands.numbers;
    room = a.setting.stands.room;
    expr = a.expr;
    stands = a.stands;
  }

  module _ (lower first count : ℕ) (callable : Option ℕ)
      (h : HeldExpr nums ends depth at lower first count callable) where
    pub expr-operands : AsksExprs nums directory ends kept reach lower first count
    expr-operands =
        let o : Operand nums ends depth lower first count (operands_in a.expr) = h.operands a.expr a.stands in
        record {
          program = a.program;
          args = operands_in a.expr;
          setting = a.setting;
          stand = o.stand;
          counts = o.counts;
          deep = omega (arith, o.levels, a.deep);
        }

    pub expr-operands-fall : (t : ℕ) → rank reach (4 * depth) ≡ t → rank reach (4 * lower + 1) < t
    expr-operands-fall t e =
        rank-lower t reach (4 * depth) (4 * lower + 1) e (omega (arith, (h.operands a.expr a.stands).levels))

    pub expr-call : (inside : ℕ) (kept₁ : List ℕ)
        → CountsExprs nums directory ends kept kept₁ reach lower first count inside
        → AsksCall nums directory ends kept₁ reach
    expr-call inside kept₁ c =
        let o : Operand nums ends depth lower first count (operands_in a.expr) = h.operands a.expr a.stands in
        record {
          program = a.program;
          setting = resumed a.setting (c.counted a.program (operands_in a.expr) a.setting o.stand
              o.counts);
        }

  pub expr-call-fall : (t : ℕ) → rank reach (4 * depth) ≡ t → rank reach 0 < t
  expr-call-fall t e = rank-lower t reach (4 * depth) 0 e (omega (arith, (expr-begins a.stands).levels))

module _ (nums directory ends kept kept₁ : List ℕ) (reach depth at lower first count : ℕ) (callable : Option ℕ)
    (inside own : ℕ)
    (h : HeldExpr nums ends depth at lower first count callable)
    (c : CountsExprs nums directory ends kept kept₁ reach lower first count inside) (o : own ≡ cut (1 + inside)) where
  own-counted : (P : Program) (e : Expr) → Setting nums directory ends kept reach P → StandsExpr nums ends depth at e
      → Counted P (1 + ceiling_args (callee_below P reach) (operands_in e)) own kept₁
  own-counted P e s w =
      let p : Operand nums ends depth lower first count (operands_in e) = h.operands e w in
      let q : Counted P (ceiling_args (callee_below P reach) (operands_in e)) inside kept₁
      = c.counted P (operands_in e) s p.stand p.counts in
      record { is = cut-own inside own _ q.is o; keeps = q.keeps }

  pub expr-calls : (kept₂ : List ℕ) (f called r : ℕ) → callable ≡ Some f
      → CountsCall nums directory ends kept₁ kept₂ reach f called
      → r ≡ cut (own + called) → CountsExpr nums directory ends kept kept₂ reach depth at r
  unfolding calling
  expr-calls kept₂ f called r k d e = record {
    low = cut_low r (own + called) e;
    counted = λ P x s w.
        let p : Counted P (1 + ceiling_args (callee_below P reach) (operands_in x)) own kept₁ = own-counted P x s w in
        let q : Counted P (callee_below P reach f) called kept₂ = d.counted P (resumed s p) in
        let same : called_by (callee_below P reach) x ≡ callee_below P reach f = h.called_is x w
        (callee_below P reach) ∙ rw k in
        record {
          is = cut-both own called r _ _ p.is q.is e ∙ rw (← ceil-expr (callee_below P reach) x, same);
          keeps = q.keeps;
        };
  }

  pub expr-plain : callable ≡ None → CountsExpr nums directory ends kept kept₁ reach depth at own
  unfolding calling
  expr-plain k = record {
    low = cut_low own (1 + inside) o;
    counted = λ P x s w.
        let p : Counted P (1 + ceiling_args (callee_below P reach) (operands_in x)) own kept₁ = own-counted P x s w in
        let same : called_by (callee_below P reach) x ≡ 0 = h.called_is x w (callee_below P reach) ∙ rw k in
        let all : 1 + ceiling_args (callee_below P reach) (operands_in x) ≡ ceiling_expr (callee_below P reach) x
        = omega (arith, ceil-expr (callee_below P reach) x, same) in
        record { is = p.is ∙ rw all; keeps = p.keeps };
  }

-- a list of expressions, summed so far: what is left, and the ceilings kept
pub record Rest (nums ends : List ℕ) (depth next left total : ℕ) (kept : List ℕ) (P : Program) (reach : ℕ)
    (xs : Args) : Type 0 where
  pub rest : Args
  pub stand : StandsArgs nums ends depth next rest
  pub counts : left ≡ arg_count rest
  pub sum : cut (ceiling_args (callee_below P reach) xs) ≡ cut (total + ceiling_args (callee_below P reach) rest)
  pub keeps : Kept P kept

pub record Summed (nums directory ends kept : List ℕ) (reach depth at count : ℕ) (kept₁ : List ℕ) (total next done : ℕ)
    : Type 0 where
  pub low : total ≤ suc most_steps
  pub going : (P : Program) (xs : Args) → Setting nums directory ends kept reach P → StandsArgs nums ends depth at xs
      → count ≡ arg_count xs → Rest nums ends depth next (count - done) total kept₁ P reach xs

pub sum-begins : (nums directory ends kept : List ℕ) (reach depth at count : ℕ)
    → Summed nums directory ends kept reach depth at count kept 0 at 0
sum-begins nums directory ends kept reach depth at count = record {
  low = omega arith;
  going = λ P xs s w e. record { rest = xs; stand = w; counts = omega (arith, e); sum = cut-begin _; keeps = s.keeps };
}

module _ (nums directory ends kept : List ℕ) (reach depth at count : ℕ) (kept₁ : List ℕ) (total next done : ℕ)
    (g : Summed nums directory ends kept reach depth at count kept₁ total next done) where
  module _ (m : done < count) where
    more_left : count - done ≡ 0 → ⊥
    more_left e = omega (arith, e)

    module _ (a : AsksExprs nums directory ends kept reach depth at count) where
      rest_of : Rest nums ends depth next (count - done) total kept₁ a.program reach a.args
      rest_of = g.going a.program a.args a.setting a.stand a.counts

      first_of : ArgView nums ends depth next (count - done) rest_of.rest
      first_of = arg_view (count - done) rest_of.rest rest_of.stand rest_of.counts more_left

      pub member-asks : AsksExpr nums directory ends kept₁ reach depth next
      member-asks = record {
        program = a.program;
        expr = first_of.first;
        setting = record {
          end = a.setting.end;
          stands = a.setting.stands;
          reaches = a.setting.reaches;
          keeps = rest_of.keeps;
        };
        stands = first_of.first_stands;
        deep = a.deep;
      }

      pub member-inside : next < length ends
      member-inside = omega (arith, (expr-begins first_of.first_stands).inside, a.setting.stands.room)

    pub sum-again : (kept₂ : List ℕ) (one total₁ next₁ : ℕ)
        → CountsExpr nums directory ends kept₁ kept₂ reach depth next one
        → total₁ ≡ cut (total + one) → next₁ ≡ get_or ends next 0
        → Summed nums directory ends kept reach depth at count kept₂ total₁ next₁ (done + 1)
    unfolding ceiling_expr
    sum-again kept₂ one total₁ next₁ c e n = record {
      low = cut_low total₁ (total + one) e;
      going = λ P xs s w k.
          let r : Rest nums ends depth next (count - done) total kept₁ P reach xs = g.going P xs s w k in
          let v : ArgView nums ends depth next (count - done) r.rest = arg_view (count - done) r.rest r.stand
          r.counts more_left in
          let q : Counted P (ceiling_expr (callee_below P reach) v.first) one kept₂
          = c.counted P v.first
          (record { end = s.end; stands = s.stands; reaches = s.reaches; keeps = r.keeps }) v.first_stands in
          record {
            rest = v.others;
            stand = rw n v.others_stand;
            counts = omega (arith, v.fewer);
            sum = cut-more total one total₁ _ _ _ q.is e (rw v.same at r.sum);
            keeps = q.keeps;
          };
    }

  pub sum-ends : count ≤ done → CountsExprs nums directory ends kept kept₁ reach depth at count total
  unfolding ceiling_expr
  sum-ends m = record {
    low = g.low;
    counted = λ P xs s w k.
        let r : Rest nums ends depth next (count - done) total kept₁ P reach xs = g.going P xs s w k in
        let none : r.rest ≡ no_args = no-args r.rest (omega (arith, r.counts)) in
        record { is = cut-done total _ g.low (rw none at r.sum); keeps = r.keeps };
  }

pub member-fall : (t reach depth : ℕ) → rank reach (4 * depth + 1) ≡ t → rank reach (4 * depth) < t
member-fall t reach depth e = rank-lower t reach (4 * depth + 1) (4 * depth) e (omega arith)

-- calls
module _ (nums directory ends kept : List ℕ) (reach f : ℕ) (a : AsksCall nums directory ends kept reach)
    (b : f < reach) where
  pub callee-has : Has callables_of nums directory ends f
  unfolding callables_of
  callee-has = record {
    program = a.program;
    end = a.setting.end;
    stands = a.setting.stands;
    inside = omega (arith, a.setting.reaches);
  }

  pub callee-slot : f < 16
  callee-slot = omega (arith, a.setting.reaches, a.setting.stands.callables.few)

  pub callee-scaled : f * 8 < 2 ^ 64
  callee-scaled = omega (arith, callee-slot)

  pub body-asks : (tables : List ℕ) (locals count body : ℕ)
      → Finds callables_of (FoundFrame nums ends locals count body) nums directory ends f
      → AsksStmt nums directory ends tables kept f 32 body
  unfolding callables_of
  body-asks tables locals count body h =
      let m : At a.program.callables f = member-at a.program.callables f (omega (arith, a.setting.reaches)) in
      record {
        program = a.program;
        stmt = m.member.body;
        setting = record {
          end = a.setting.end;
          stands = a.setting.stands;
          reaches = omega (arith, a.setting.reaches);
          keeps = a.setting.keeps;
        };
        table = no_table;
        tabled = record { slot = λ e. absurd (omega (arith, e, a.setting.reaches)); beyond = λ t l. refl };
        stands = (h.finds a.program a.setting.end m.member a.setting.stands m.is).body_stands;
        deep = omega arith;
      }

  pub body-fall : (t : ℕ) → rank reach 0 ≡ t → rank f (4 * 32 + 2) < t
  body-fall t e = rank-callee t reach 0 f (4 * 32 + 2) e b (omega arith)

  pub call_known : (known : ℕ) → known ≡ get_or kept f 0 → (known ≡ 0 → ⊥)
      → CountsCall nums directory ends kept kept reach f known
  call_known known e n = record {
    low = cut_low known _ (right a.program a.setting);
    counted = λ P s. record { is = right P s ∙ rw (callee_at P reach f b); keeps = s.keeps };
  }
    where
      right : (P : Program) → Setting nums directory ends kept reach P → known ≡ cut (ceiling_number P f)
      right P s = e ∙ s.keeps.slot f (omega (arith, s.reaches)) (λ z. n (e ∙ z))

-- a slot filled
kept_more : (P : Program) (kept : List ℕ) (f v : ℕ) → Kept P kept → f < length P.callables → f < 16
    → v ≡ cut (ceiling_number P f) → Kept P (set kept f v)
kept_more P kept f v k h few e = record {
  slots = length-set kept f v ∙ k.slots;
  slot = λ g l n. go g l n (eqb g f) refl;
}
  where
    go : (g : ℕ) → g < length P.callables → (get_or (set kept f v) g 0 ≡ 0 → ⊥) → (b : Bool) → eqb g f ≡ b
        → get_or (set kept f v) g 0 ≡ cut (ceiling_number P g)
    go g l n true q =
        let same : g ≡ f = eqb-true g f q in
        rw same (get_or-set_same kept f v 0 (omega (arith, k.slots)) ∙ e)
    go g l n false q =
        let still : get_or (set kept f v) g 0 ≡ get_or kept g 0
        = get_or-set_other kept f g v 0 (eqb-false g f q) in
        still ∙ k.slot g l (λ z. n (still ∙ z))

pub call-worked : (nums directory ends tables kept kept₁ : List ℕ) (reach f locals count at body : ℕ) → f < reach
    → Finds callables_of (FoundFrame nums ends locals count at) nums directory ends f
    → CountsStmt nums directory ends tables kept kept₁ f 32 at body
    → CountsCall nums directory ends kept (set kept₁ f body) reach f body
unfolding callables_of
call-worked nums directory ends tables kept kept₁ reach f locals count at body b h c = record {
  low = c.low;
  counted = λ P s.
      let l : f < length P.callables = omega (arith, s.reaches) in
      let m : At P.callables f = member-at P.callables f l in
      let w : StandsStmt nums ends deepest at m.member.body
      = (h.finds P s.end m.member s.stands m.is).body_stands in
      let q : Counted P (ceiling_stmt (callee_below P f) (applied_in P f no_table) m.member.body) body kept₁
      = c.counted P m.member.body
      (record { end = s.end; stands = s.stands; reaches = omega (arith, l); keeps = s.keeps })
      no_table (record { slot = λ e. absurd (omega (arith, e, l)); beyond = λ t h. refl }) w in
      let number : body ≡ cut (ceiling_number P f) = q.is ∙ rw (number-is P f no_table m.member m.is l) in
      record {
        is = number ∙ rw (callee_at P reach f b);
        keeps = kept_more P kept₁ f body q.keeps l (omega (arith, l, s.stands.callables.few)) number;
      };
}

pub call_none : (nums directory ends kept : List ℕ) (reach f : ℕ) → reach ≤ f
    → CountsCall nums directory ends kept kept reach f 0
call_none nums directory ends kept reach f h = record {
  low = omega arith;
  counted = λ P s. record { is = cut-zero ∙ rw (callee-none P reach f h); keeps = s.keeps };
}

pub ruleset counting = (
  one-low,
  cut_low,
  expr_held,
  expr-operands,
  expr-operands-fall,
  expr-call,
  expr-call-fall,
  expr-calls,
  expr-plain,
  sum-begins,
  member-asks,
  member-inside,
  member-fall,
  sum-again,
  sum-ends,
  callee-has,
  callee-slot,
  callee-scaled,
  body-asks,
  body-fall,
  call_known,
  call-worked,
  call_none,
)
