-- From reading to standing: a state that the rules' readers gave, and whose ends are laid, stands where it was read.
use mathlib.Core.Path.{◌≡◌, refl, sym, ◌∙◌}
use mathlib.Core.Option.{some}
use mathlib.Core.List.{List, []}
use Prim.Native.Nat.{ℕ, zero, suc, ◌+◌, ◌-◌, ◌<◌}
use native.Mathlib.Omega.{arith}
use native.Mathlib.Nat.{add-zero}
use lib.ListN.{length, get_or, get_elem?}
use Rattle.rules.specs.Syntax.{Pair, Transition, no_transition, accept, reject, lead_to, select, ParserState}
use Rattle.rules.specs.Reading.{repeat, deepest, most_error, most_pairs, transition_tags, TransitionTag, tag_none, tag_accept, tag_reject, tag_lead_to, tag_select, read_pair, read_transition_as, read_transition, read_state}
use Rattle.rules.proofs.Readers.{keeps-stands, keeps-between, keeps-list, keeps-expr, keeps-numeral, keeps-pair, keeps-stmt, keeps-transition}
use Rattle.shape.specs.Ends.{first_at, pair_at, transition_at, EndedExpr, EndedStmt, EndedTransition, EndedState}
use Rattle.program.specs.Stands.{Holds, StandsExpr, StandsStmt, StandsPairs, StandsTransition, on-no-transition, on-accept, on-reject, on-lead-to, on-select, StandsState}
use Rattle.program.proofs.Readings.{Reads, reads-to, reads-from, Both, both, Given, reads-pure, reads_here, Meant, reads-stands, Bounded, reads-between, Counted, reads-list, reads_none, Head, reads_more}
use Rattle.program.proofs.ExprsStand.{Numbered, numbered-at, expr-end, expr-stands}
use Rattle.program.proofs.StmtsStand.{stmt-end, stmt-stands}
use Rattle.program.proofs.PartsStand.{NumeralStood, numeral-stands}

unfoldable transition_number : TransitionTag → ℕ
transition_number tag_none = 0
transition_number tag_accept = 1
transition_number tag_reject = 2
transition_number tag_lead_to = 3
transition_number tag_select = 4

module _ (version : ℕ) (nums ends : List ℕ) where
  transition-tag : (n : ℕ) (t : TransitionTag) → get_elem? (transition_tags version) n ≡ some t → n ≡ transition_number t
  unfolding Numbered transition_number
  transition-tag n t e = sym (add-zero n)
      ∙ numbered-at transition_number 0 (transition_tags version) (refl, (refl, (refl, (refl, (refl, tt))))) n t e

  -- the pairs of a select
  record PairsStood (at next : ℕ) (ps : List Pair) : Type 0 where
    pub stand : StandsPairs nums at ps
    pub begin : first_at pair_at ps next ≡ at

  pairs-stand : (n at next : ℕ) (ps : List Pair) → Reads (repeat n (read_pair version)) nums at next ps
      → PairsStood at next ps
  unfolding StandsPairs first_at pair_at read_pair
  pairs-stand zero at next ps r =
      let g : Given [] ps at next = reads_none (read_pair version) r in
      rw (← g.same) (record { stand = tt; begin = sym g.stays })
  pairs-stand (suc n) at next ps r =
      let t : Head n (read_pair version) nums at next ps = reads_more (keeps-pair version) r in
      let x : Both _ _ nums at t.mid t.member = both (keeps-numeral version) t.first in
      let v : NumeralStood version nums at x.mid x.result = numeral-stands version nums at x.mid x.result
      x.first in
      let y : Both _ _ nums x.mid t.mid t.member = both (keeps-numeral version) x.second in
      let w : NumeralStood version nums (at + 1) y.mid y.result
      = numeral-stands version nums (at + 1) y.mid y.result (reads-from v.next_is y.first) in
      let g : Given (record { value = x.result; state = y.result }) t.member y.mid t.mid = reads-pure
      y.second in
      let i : t.mid ≡ at + 2 = omega (arith, w.next_is, g.stays) in
      let s : PairsStood (at + 2) next t.others = pairs-stand n (at + 2) next t.others (reads-from i t.rest) in
      rw (t.same, ← g.same) (record { stand = (v.stands, (w.stands, s.stand)); begin = v.stands.index })

  record TransitionStood (at next : ℕ) (t : Transition) : Type 0 where
    pub stands : StandsTransition nums ends at t
    pub begin : transition_at t next ≡ at

  module _ (at next : ℕ) (t : Transition) (inside : at < length nums) where
    tagged : (n : ℕ) → get_or nums at 0 ≡ n → Holds nums at n
    tagged n k = record { inside = inside; is = k }

    transition-as : (x : TransitionTag) → get_or nums at 0 ≡ transition_number x
        → Reads (read_transition_as version x at) nums (at + 1) next t → EndedTransition t next ends
        → TransitionStood at next t
    unfolding read_transition_as transition_number EndedTransition transition_at
    transition-as tag_none k r h =
        let g : Given no_transition t (at + 1) next = reads-pure r in
        rw (← g.same) (record { stands = on-no-transition (tagged 0 k); begin = omega (arith, g.stays) })
    transition-as tag_accept k r h =
        let g : Given accept t (at + 1) next = reads-pure r in
        rw (← g.same) (record { stands = on-accept (tagged 1 k); begin = omega (arith, g.stays) })
    transition-as tag_reject k r h =
        let b : Both _ _ nums (at + 1) next t = both (keeps-between 0 most_error) r in
        let e : Bounded 0 most_error nums (at + 1) b.mid b.result = reads-between b.first in
        let g : Given (reject b.result) t b.mid next = reads-pure b.second in
        rw (← g.same) (record {
          stands = on-reject (tagged 2 k) e.holds;
          begin = omega (arith, e.next_is, g.stays);
        })
    transition-as tag_lead_to k r h =
        let b : Both _ _ nums (at + 1) next t = both (keeps-numeral version) r in
        let n : NumeralStood version nums (at + 1) b.mid b.result
        = numeral-stands version nums (at + 1) b.mid b.result b.first in
        let g : Given (lead_to b.result) t b.mid next = reads-pure b.second in
        rw (← g.same) (record {
          stands = on-lead-to (tagged 3 k) n.stands;
          begin = omega (arith, n.stands.index);
        })
    transition-as tag_select k r h =
        let b : Both _ _ nums (at + 1) next t = both (keeps-expr version deepest) r in
        let c : Both _ _ nums b.mid next t = both (keeps-list 0 most_pairs (keeps-pair version)) b.second in
        let g : Given (select at b.result c.result) t c.mid next = reads-pure c.second in
        let f : EndedTransition (select at b.result c.result) next ends = rw (← g.same) at h in
        let l : Counted 0 most_pairs (read_pair version) nums b.mid next c.result
        = reads-list (reads-to g.stays c.first) in
        let ps : PairsStood (b.mid + 1) next c.result = pairs-stand (length c.result) (b.mid + 1) next
        c.result l.members in
        let last : first_at pair_at c.result next - 1 ≡ b.mid = omega (arith, ps.begin) in
        let k' : EndedExpr b.result b.mid ends = rw last at f in
        let e : StandsExpr nums ends deepest (at + 1) b.result
        = expr-stands version nums ends deepest (at + 1) b.mid b.result b.first k' in
        let i : get_or ends (at + 1) 0 ≡ b.mid = expr-end b.result b.mid e k' in
        rw (← g.same) (record {
          stands = on-select {ps = c.result} (tagged 4 k) e (rw i l.holds) (rw i ps.stand);
          begin = refl;
        })

  transition-stands : (at next : ℕ) (t : Transition) → Reads (read_transition version) nums at next t
      → EndedTransition t next ends → TransitionStood at next t
  unfolding read_transition
  transition-stands at next t r h =
      let b : Both _ _ nums at next t = both (keeps-stands _) (reads_here _ r) in
      let m : Meant (get_elem? (transition_tags version)) nums at b.mid b.result = reads-stands b.first in
      transition-as at next t m.inside b.result (transition-tag (get_or nums at 0) b.result m.means)
      (reads-from m.next_is b.second) h

  pub state-stands : (at next : ℕ) (s : ParserState) → Reads (read_state version) nums at next s
      → EndedState s next ends → StandsState nums ends at s
  unfolding read_state EndedState
  state-stands at next s r h =
      let b : Both _ _ nums at next s = both (keeps-stmt version deepest) (reads_here _ r) in
      let c : Both _ _ nums b.mid next s = both (keeps-transition version) b.second in
      let g : Given (record { at = at; body = b.result; transition = c.result }) s c.mid next = reads-pure
      c.second in
      let f : EndedStmt b.result (transition_at c.result next) ends × EndedTransition c.result next ends
      = rw (← g.same) at h in
      let t : TransitionStood b.mid next c.result
      = transition-stands b.mid next c.result (reads-to g.stays c.first) f.1 in
      let k : EndedStmt b.result b.mid ends = rw t.begin at f.0 in
      let w : StandsStmt nums ends deepest at b.result
      = stmt-stands version nums ends deepest at b.mid b.result b.first k in
      let i : get_or ends at 0 ≡ b.mid = stmt-end b.result b.mid w k in
      rw (← g.same) (record { index = refl; body = w; transition = rw i t.stands })
