-- The steps of the count of tables, and of the whole.
use mathlib.Core.Bool.{Bool, true, false}
use mathlib.Core.Path.{◌≡◌, refl, sym, ◌∙◌}
use mathlib.Core.List.{List, [], ◌∷◌}
use Prim.Native.Nat.{ℕ, zero, suc, ◌+◌, ◌-◌, ◌≤◌, ◌<◌, ◌^◌, max}
use native.Mathlib.Nat.{add-zero, sub-zero}
use native.Mathlib.Omega.{arith}
use lib.Dec.{eqb}
use lib.ListN.{length, get_or, get_elem?, set, length-set}
use lib.Seq.{get_or-set_same, get_or-set_other}
use borrow.Author.Tests.{eqb-true, eqb-false}
use Rattle.rules.specs.Syntax.{Numeral, Key, Table, Program}
use Rattle.rules.specs.Ceiling.{most_steps, ceiling_expr, ceiling_keys, largest_of, ceiling_table}
use Rattle.program.specs.Stands.{StandsNumerals}
use Rattle.program.specs.Looks.{Has, Finds, tables_of, FoundTable}
use Rattle.program.proofs.Views.{expr-begins}
use Rattle.program.proofs.Firsts.{FirstNumeral, first-numeral, FirstKey, first_key}
use Rattle.program.proofs.Found.{At, member-at}
use Rattle.ceiling.specs.Cut.{cut}
use Rattle.ceiling.specs.Claims.{callee_below, Counted, AsksExpr, CountsExpr, AsksCall, CountsCall}
use Rattle.ceiling.specs.Claims.{AsksKeys, CountsKeys, AsksLargest, CountsLargest, AsksTable, CountsTable, FilledTo, AsksTables, CountsTables}
use Rattle.ceiling.proofs.Sums.{cut_low, cut-zero, cut-both, cut-max, cut-again, cut-only, cut-alone, below}
use Rattle.ceiling.proofs.Counting.{resumed}

pub count-falls : (t count : ℕ) → count ≡ t → (count ≡ 0 → ⊥) → count - 1 < t
count-falls t zero e n = absurd (n refl)
count-falls t (suc count) e n = omega (arith, e)

pub record KeyRoom (nums ends : List ℕ) (at : ℕ) : Type 0 where
  pub inside : at + 1 < length nums
  pub numbers : length nums ≤ 4096
  pub room : length nums ≤ length ends

module _ (nums directory ends kept : List ℕ) (reach at count : ℕ) (a : AsksKeys nums directory ends kept reach at count)
    (n : count ≡ 0 → ⊥) where
  asked-key : FirstKey nums ends at count a.keys
  asked-key = first_key nums ends at count a.keys a.stand a.counts n

  pub key-room : KeyRoom nums ends at
  key-room = record {
    inside = (expr-begins asked-key.stands).inside;
    numbers = a.setting.stands.numbers;
    room = a.setting.stands.room;
  }

  pub key-asks : AsksExpr nums directory ends kept reach 32 (at + 1)
  key-asks = record {
    program = a.program;
    expr = asked-key.first.expr;
    setting = a.setting;
    stands = asked-key.stands;
    deep = omega arith;
  }

  pub keys-rest : (kept₁ : List ℕ) (one : ℕ) → CountsExpr nums directory ends kept kept₁ reach 32 (at + 1) one
      → AsksKeys nums directory ends kept₁ reach (get_or ends (at + 1) 0) (count - 1)
  keys-rest kept₁ one c = record {
    program = a.program;
    keys = asked-key.others;
    setting = resumed a.setting (c.counted a.program asked-key.first.expr a.setting asked-key.stands);
    stand = asked-key.rest;
    counts = asked-key.fewer;
  }

module _ (nums directory ends kept : List ℕ) (reach at count : ℕ) where
  no_keys : (ks : List Key) → length ks ≡ 0 → ks ≡ []
  no_keys [] e = refl
  no_keys (k ∷ ks) e = absurd (omega arith)

  pub keys_none : count ≡ 0 → CountsKeys nums directory ends kept kept reach at count 0
  unfolding ceiling_keys
  keys_none e = record {
    low = omega arith;
    counted = λ P ks s w k. rw (no_keys ks (sym k ∙ e)) (record { is = cut-zero; keeps = s.keeps });
  }

  pub keys-counted : (kept₁ kept₂ : List ℕ) (one others r : ℕ) → (count ≡ 0 → ⊥)
      → CountsExpr nums directory ends kept kept₁ reach 32 (at + 1) one
      → CountsKeys nums directory ends kept₁ kept₂ reach (get_or ends (at + 1) 0) (count - 1) others
      → r ≡ cut (one + others) → CountsKeys nums directory ends kept kept₂ reach at count r
  unfolding ceiling_keys
  keys-counted kept₁ kept₂ one others r n c d e = record {
    low = cut_low r (one + others) e;
    counted = λ P ks s w k.
        let v : FirstKey nums ends at count ks = first_key nums ends at count ks w k n in
        let p : Counted P (ceiling_expr (callee_below P reach) v.first.expr) one kept₁
        = c.counted P v.first.expr s v.stands in
        let q : Counted P (ceiling_keys (callee_below P reach) v.others) others kept₂
        = d.counted P v.others (resumed s p) v.rest v.fewer in
        rw v.same (record { is = cut-both one others r _ _ p.is q.is e; keeps = q.keeps });
  }

-- so many keys, of which some are summed
pub record KeysSummed (nums directory ends kept : List ℕ) (reach at count : ℕ) (kept₁ : List ℕ) (total here done : ℕ)
    : Type 0 where
  pub low : total ≤ suc most_steps
  pub asks : AsksKeys nums directory ends kept₁ reach here (count - done)
  pub rest : (kept₂ : List ℕ) (others r : ℕ)
      → CountsKeys nums directory ends kept₁ kept₂ reach here (count - done) others → r ≡ cut (total + others)
      → CountsKeys nums directory ends kept kept₂ reach at count r

pub keys-begin : (nums directory ends kept : List ℕ) (reach at count : ℕ)
    → AsksKeys nums directory ends kept reach at count
    → KeysSummed nums directory ends kept reach at count kept 0 at 0
keys-begin nums directory ends kept reach at count a = record {
  low = omega arith;
  asks = rw sub-zero a;
  rest = λ kept₂ others r c e. rw (e ∙ cut-only others c.low) (rw sub-zero at c);
}

module _ (nums directory ends kept : List ℕ) (reach at count : ℕ) (kept₁ : List ℕ) (total here done : ℕ)
    (w : KeysSummed nums directory ends kept reach at count kept₁ total here done)
  where
    module _ (m : done < count) where
      more : count - done ≡ 0 → ⊥
      more e = omega (arith, e)

      fewer : count - done - 1 ≡ count - (done + 1)
      fewer = omega arith

      pub keys-room : KeyRoom nums ends here
      keys-room = key-room nums directory ends kept₁ reach here (count - done) w.asks more

      pub keys-asks : AsksExpr nums directory ends kept₁ reach 32 (here + 1)
      keys-asks = key-asks nums directory ends kept₁ reach here (count - done) w.asks more

      pub keys-again : (kept₂ : List ℕ) (one total₁ : ℕ)
          → CountsExpr nums directory ends kept₁ kept₂ reach 32 (here + 1) one → total₁ ≡ cut (total + one)
          → KeysSummed nums directory ends kept reach at count kept₂ total₁ (get_or ends (here + 1) 0) (done + 1)
      keys-again kept₂ one total₁ c e = record {
        low = cut_low total₁ (total + one) e;
        asks = rw (← fewer) (keys-rest nums directory ends kept₁ reach here (count - done) w.asks more kept₂ one c);
        rest = λ kept₃ others r d f.
            w.rest kept₃ (cut (one + others)) r
            (keys-counted nums directory ends kept₁ reach here (count - done) kept₂ kept₃ one others
            (cut (one + others)) more c (rw (← fewer) at d) refl)
            (cut-again total one total₁ others r e f);
      }

    pub keys-end : count ≤ done → CountsKeys nums directory ends kept kept₁ reach at count total
    keys-end m = w.rest kept₁ 0 total (keys_none nums directory ends kept₁ reach here (count - done) (omega arith))
        (cut-alone total w.low)

pub ruleset counting_keys = (cut_low, keys-begin, keys-asks, keys-again, keys-end)

pub record ActionRoom (nums : List ℕ) (at : ℕ) : Type 0 where
  pub inside : at < length nums
  pub numbers : length nums ≤ 4096

module _ (nums directory ends kept : List ℕ) (reach at count : ℕ)
    (a : AsksLargest nums directory ends kept reach at count)
    (n : count ≡ 0 → ⊥) where
  first-action : FirstNumeral nums at count a.actions
  first-action = first-numeral nums at count a.actions a.stand a.counts n

  pub action-room : ActionRoom nums at
  action-room = record { inside = first-action.stands.holds.inside; numbers = a.setting.stands.numbers }

  pub action-asks : AsksCall nums directory ends kept reach
  action-asks = record { program = a.program; setting = a.setting }

  pub actions-rest : (kept₁ : List ℕ) (f one : ℕ) → CountsCall nums directory ends kept kept₁ reach f one
      → AsksLargest nums directory ends kept₁ reach (at + 1) (count - 1)
  actions-rest kept₁ f one c = record {
    program = a.program;
    actions = first-action.others;
    setting = resumed a.setting (c.counted a.program a.setting);
    stand = first-action.rest;
    counts = first-action.fewer;
  }

module _ (nums directory ends kept : List ℕ) (reach at count : ℕ) where
  no-actions : (ns : List Numeral) → length ns ≡ 0 → ns ≡ []
  no-actions [] e = refl
  no-actions (k ∷ ks) e = absurd (omega arith)

  pub actions-none : count ≡ 0 → CountsLargest nums directory ends kept kept reach at count 0
  unfolding largest_of
  actions-none e = record {
    low = omega arith;
    counted = λ P ns s w k. rw (no-actions ns (sym k ∙ e)) (record { is = cut-zero; keeps = s.keeps });
  }

  actions-more : (kept₁ kept₂ : List ℕ) (one others : ℕ) → (count ≡ 0 → ⊥)
      → CountsCall nums directory ends kept kept₁ reach (get_or nums at 0) one
      → CountsLargest nums directory ends kept₁ kept₂ reach (at + 1) (count - 1) others
      → CountsLargest nums directory ends kept kept₂ reach at count (max one others)
  unfolding largest_of
  actions-more kept₁ kept₂ one others n c d = record {
    low = omega (arith, c.low, d.low);
    counted = λ P ns s w k.
        let v : FirstNumeral nums at count ns = first-numeral nums at count ns w k n in
        let p : Counted P (callee_below P reach v.first.number) one kept₁ = rw v.stands.holds.is at
        (c.counted P s) in
        let q : Counted P (largest_of (callee_below P reach) v.others) others kept₂
        = d.counted P v.others (resumed s p) v.rest v.fewer in
        rw v.same (record { is = cut-max one others _ _ p.is q.is; keeps = q.keeps });
  }

-- so many actions, of which some are done
pub record ActionsLeft (nums directory ends kept : List ℕ) (reach at count : ℕ) (kept₁ : List ℕ) (most done : ℕ)
    : Type 0 where
  pub asks : AsksLargest nums directory ends kept₁ reach (at + done) (count - done)
  pub rest : (kept₂ : List ℕ) (others r : ℕ)
      → CountsLargest nums directory ends kept₁ kept₂ reach (at + done) (count - done) others → r ≡ max most others
      → CountsLargest nums directory ends kept kept₂ reach at count r

pub actions-begin : (nums directory ends kept : List ℕ) (reach at count : ℕ)
    → AsksLargest nums directory ends kept reach at count
    → ActionsLeft nums directory ends kept reach at count kept 0 0
actions-begin nums directory ends kept reach at count a = record {
  asks = rw (sub-zero, add-zero) a;
  rest = λ kept₂ others r c e.
      let same : r ≡ others = omega (arith, e) in rw same (rw (sub-zero, add-zero) at c);
}

module _ (nums directory ends kept : List ℕ) (reach at count : ℕ) (kept₁ : List ℕ) (most done : ℕ)
    (w : ActionsLeft nums directory ends kept reach at count kept₁ most done)
  where
    module _ (m : done < count) where
      more-actions : count - done ≡ 0 → ⊥
      more-actions e = omega (arith, e)

      fewer-actions : count - done - 1 ≡ count - (done + 1)
      fewer-actions = omega arith

      further : at + done + 1 ≡ at + (done + 1)
      further = omega arith

      pub actions-inside : at + done < length nums
      actions-inside = (action-room nums directory ends kept₁ reach (at + done) (count - done) w.asks more-actions).inside

      pub actions-next : at + done < 2 ^ 64
      actions-next = omega (
        arith,
        actions-inside,
        (action-room nums directory ends kept₁ reach (at + done) (count - done) w.asks more-actions).numbers,
      )

      pub actions-asks : AsksCall nums directory ends kept₁ reach
      actions-asks = action-asks nums directory ends kept₁ reach (at + done) (count - done) w.asks more-actions

      pub actions-again : (kept₂ : List ℕ) (one most₁ : ℕ)
          → CountsCall nums directory ends kept₁ kept₂ reach (get_or nums (at + done) 0) one
          → most₁ ≡ max most one
          → ActionsLeft nums directory ends kept reach at count kept₂ most₁ (done + 1)
      actions-again kept₂ one most₁ c e = record {
        asks = rw (← further, ← fewer-actions)
            (actions-rest nums directory ends kept₁ reach (at + done) (count - done) w.asks more-actions kept₂ _ one c);
        rest = λ kept₃ others r d f.
            w.rest kept₃ (max one others) r
            (actions-more nums directory ends kept₁ reach (at + done) (count - done) kept₂ kept₃ one others more-actions
            c (rw (← further, ← fewer-actions) at d))
            (omega (arith, e, f));
      }

    pub actions-end : count ≤ done → CountsLargest nums directory ends kept kept₁ reach at count most
    actions-end m = w.rest kept₁ 0 most
        (actions-none nums directory ends kept₁ reach (at + done) (count - done) (omega arith)) (omega arith)

pub ruleset counting_actions = (
  actions-inside,
  actions-next,
  actions-begin,
  actions-asks,
  actions-again,
  actions-end,
)

-- a table
found-actions : (nums ends : List ℕ) (at actions default : ℕ) (T : Table) → FoundTable nums ends at actions default T
    → StandsNumerals nums (actions + 1) T.actions × (get_or nums actions 0 ≡ length T.actions)
found-actions nums ends at actions default T f =
    rw f.actions_is (f.stands.actions, f.stands.action_count.holds.is)

module _ (nums directory ends kept : List ℕ) (reach t : ℕ) (a : AsksTable nums directory ends kept reach t) where
  pub table-has : Has tables_of nums directory ends t
  unfolding tables_of
  table-has = record {
    program = a.program;
    end = a.setting.end;
    stands = a.setting.stands;
    inside = a.inside;
  }

  module _ (at actions default : ℕ)
      (h : Finds tables_of (FoundTable nums ends at actions default) nums directory ends t) where
    found-table : At a.program.tables t
    found-table = member-at a.program.tables t a.inside

    found : FoundTable nums ends at actions default found-table.member
    unfolding tables_of
    found = h.finds a.program a.setting.end found-table.member a.setting.stands found-table.is

    pub table-room : ActionRoom nums at
    table-room = record { inside = found.stands.key_count.holds.inside; numbers = a.setting.stands.numbers }

    pub actions-room : ActionRoom nums actions
    actions-room = record {
      inside = rw found.actions_is found.stands.action_count.holds.inside;
      numbers = a.setting.stands.numbers;
    }

    pub table-keys : AsksKeys nums directory ends kept reach (at + 1) (get_or nums at 0)
    table-keys = record {
      program = a.program;
      keys = found-table.member.keys;
      setting = a.setting;
      stand = found.stands.keys;
      counts = found.stands.key_count.holds.is;
    }

    pub table-actions : (kept₁ : List ℕ) (keys : ℕ)
        → CountsKeys nums directory ends kept kept₁ reach (at + 1) (get_or nums at 0) keys
        → AsksLargest nums directory ends kept₁ reach (actions + 1) (get_or nums actions 0)
    table-actions kept₁ keys c = record {
      program = a.program;
      actions = found-table.member.actions;
      setting = resumed a.setting (c.counted a.program found-table.member.keys a.setting
          found.stands.keys
          found.stands.key_count.holds.is);
      stand = (found-actions nums ends at actions default found-table.member found).0;
      counts = (found-actions nums ends at actions default found-table.member found).1;
    }

pub table_counted : (nums directory ends kept kept₁ kept₂ : List ℕ) (reach t at actions default keys run r : ℕ)
    → Finds tables_of (FoundTable nums ends at actions default) nums directory ends t
    → CountsKeys nums directory ends kept kept₁ reach (at + 1) (get_or nums at 0) keys
    → CountsLargest nums directory ends kept₁ kept₂ reach (actions + 1) (get_or nums actions 0) run
    → r ≡ cut (keys + run) → CountsTable nums directory ends kept kept₂ reach t r
unfolding tables_of ceiling_table
table_counted nums directory ends kept kept₁ kept₂ reach t at actions default keys run r h c d e = record {
  low = cut_low r (keys + run) e;
  counted = λ P s l.
      let m : At P.tables t = member-at P.tables t l in
      let f : FoundTable nums ends at actions default m.member = h.finds P s.end m.member s.stands
      m.is in
      let p : Counted P (ceiling_keys (callee_below P reach) m.member.keys) keys kept₁
      = c.counted P m.member.keys s f.stands.keys f.stands.key_count.holds.is in
      let q : Counted P (largest_of (callee_below P reach) m.member.actions) run kept₂
      = d.counted P m.member.actions (resumed s p) (found-actions nums ends at actions default m.member f).0
      (found-actions nums ends at actions default m.member f).1 in
      record { is = cut-both keys run r _ _ p.is q.is e ∙ rw m.is; keeps = q.keeps };
}

pub ruleset counting_table = (table-has, table-keys, table-actions, table_counted)

-- all tables, from a number on
module _ (nums directory ends kept filled : List ℕ) (reach t : ℕ)
    (a : AsksTables nums directory ends kept filled reach t)
    (m : t < get_or directory 59 0) where
  pub tables-slot : t < 8
  tables-slot = omega (arith, a.setting.stands.tables.count, a.setting.stands.tables.few)

  pub tables-asks : AsksTable nums directory ends kept reach t
  tables-asks = record {
    program = a.program;
    setting = a.setting;
    inside = omega (arith, a.setting.stands.tables.count);
  }

filled_more : (P : Program) (reach : ℕ) (filled : List ℕ) (t v : ℕ) → FilledTo P reach filled t → t < 8
    → (t < length P.tables → v ≡ cut (ceiling_table (callee_below P reach) (get_elem? P.tables t)))
    → FilledTo P reach (set filled t v) (t + 1)
filled_more P reach filled t v f few e = record {
  slots = length-set filled t v ∙ f.slots;
  slot = λ u l i. go u l i (eqb u t) refl;
}
  where
    go : (u : ℕ) → u < t + 1 → u < length P.tables → (b : Bool) → eqb u t ≡ b
        → get_or (set filled t v) u 0 ≡ cut (ceiling_table (callee_below P reach) (get_elem? P.tables u))
    go u l i true q =
        let same : u ≡ t = eqb-true u t q in
        rw same (get_or-set_same filled t v 0 (omega (arith, f.slots)) ∙ e (omega (arith, same)))
    go u l i false q =
        get_or-set_other filled t u v 0 (eqb-false u t q) ∙ f.slot u (below u t (omega arith) (eqb-false u t q)) i

pub tables-rest : (nums directory ends kept filled kept₁ : List ℕ) (reach t one : ℕ)
    → AsksTables nums directory ends kept filled reach t → t < get_or directory 59 0
    → CountsTable nums directory ends kept kept₁ reach t one
    → AsksTables nums directory ends kept₁ (set filled t one) reach (t + 1)
tables-rest nums directory ends kept filled kept₁ reach t one a m c =
    let l : t < length a.program.tables = omega (arith, a.setting.stands.tables.count) in
    let p : Counted a.program (ceiling_table (callee_below a.program reach) (get_elem?
    a.program.tables t)) one kept₁
    = c.counted a.program a.setting l in
    record {
      program = a.program;
      setting = resumed a.setting p;
      fills = filled_more a.program reach filled t one a.fills
          (omega (arith, a.setting.stands.tables.count, a.setting.stands.tables.few)) (λ i. p.is);
    }

pub tables-counted : (nums directory ends kept filled kept₁ kept₂ filled₂ : List ℕ) (reach t one : ℕ)
    → t < get_or directory 59 0 → CountsTable nums directory ends kept kept₁ reach t one
    → CountsTables nums directory ends kept₁ kept₂ (set filled t one) filled₂ reach (t + 1)
    → CountsTables nums directory ends kept kept₂ filled filled₂ reach t
tables-counted nums directory ends kept filled kept₁ kept₂ filled₂ reach t one m c d = record {
  counted = λ P s f.
      let l : t < length P.tables = omega (arith, s.stands.tables.count) in
      let p : Counted P (ceiling_table (callee_below P reach) (get_elem? P.tables t)) one kept₁ = c.counted P s l in
      d.counted P (resumed s p)
      (filled_more P reach filled t one f (omega (arith, l, s.stands.tables.few)) (λ i. p.is));
}

pub tables-done : (nums directory ends kept filled : List ℕ) (reach t : ℕ) → get_or directory 59 0 ≤ t
    → CountsTables nums directory ends kept kept filled filled reach t
tables-done nums directory ends kept filled reach t h = record {
  counted = λ P s f. record {
    fills = record { slots = f.slots; slot = λ u l i. f.slot u (omega (arith, s.stands.tables.count)) i };
    keeps = s.keeps;
  };
}

-- so many tables, of which some are done: what the rest leaves, all do
pub record TablesLeft (nums directory ends kept filled : List ℕ) (reach t : ℕ) (kept₁ filled₁ : List ℕ) : Type 0 where
  pub asks : AsksTables nums directory ends kept₁ filled₁ reach t
  pub rest : (kept₂ filled₂ : List ℕ) → CountsTables nums directory ends kept₁ kept₂ filled₁ filled₂ reach t
      → CountsTables nums directory ends kept kept₂ filled filled₂ reach 0

pub tables-begin : (nums directory ends kept filled : List ℕ) (reach : ℕ)
    → AsksTables nums directory ends kept filled reach 0
    → TablesLeft nums directory ends kept filled reach 0 kept filled
tables-begin nums directory ends kept filled reach a = record { asks = a; rest = λ kept₂ filled₂ c. c }

module _ (nums directory ends kept filled : List ℕ) (reach t : ℕ) (kept₁ filled₁ : List ℕ)
    (w : TablesLeft nums directory ends kept filled reach t kept₁ filled₁)
  where
    module _ (m : t < get_or directory 59 0) where
      pub table-slot : t < 8
      table-slot = tables-slot nums directory ends kept₁ filled₁ reach t w.asks m

      pub table-asks : AsksTable nums directory ends kept₁ reach t
      table-asks = tables-asks nums directory ends kept₁ filled₁ reach t w.asks m

      pub tables-again : (kept₂ : List ℕ) (one : ℕ) → CountsTable nums directory ends kept₁ kept₂ reach t one
          → TablesLeft nums directory ends kept filled reach (t + 1) kept₂ (set filled₁ t one)
      tables-again kept₂ one c = record {
        asks = tables-rest nums directory ends kept₁ filled₁ kept₂ reach t one w.asks m c;
        rest = λ kept₃ filled₃ d.
            w.rest kept₃ filled₃
            (tables-counted nums directory ends kept₁ filled₁ kept₂ kept₃ filled₃ reach t one m c d);
      }

    pub tables-end : get_or directory 59 0 ≤ t
        → CountsTables nums directory ends kept kept₁ filled filled₁ reach 0
    tables-end h = w.rest kept₁ filled₁ (tables-done nums directory ends kept₁ filled₁ reach t h)

pub ruleset counting_tables = (tables-begin, table-slot, table-asks, tables-again, tables-end)
