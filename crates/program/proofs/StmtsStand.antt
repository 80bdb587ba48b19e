-- From reading to standing: a statement that the rules' readers gave, and whose ends are laid, stands where it was read.
use mathlib.Core.Bool.{Bool, true, false}
use mathlib.Core.Option.{Option, none, some}
use mathlib.Core.Path.{◌≡◌, refl, sym, ◌∙◌}
use mathlib.Core.List.{List, [], ◌∷◌}
use Prim.Native.Nat.{ℕ, zero, suc, ◌+◌, ◌-◌, ◌<◌}
use native.Mathlib.Omega.{arith}
use native.Mathlib.Numerals.{sub-one}
use native.Mathlib.Nat.{add-zero}
use lib.ListN.{length, get_or, get_elem?}
use Rattle.rules.specs.Syntax.{Place, Expr}
use Rattle.rules.specs.Syntax.{Stmt, empty, assign, if_else, block, call_stmt, apply, return_value, return, exit, set_valid, set_invalid, extract, verify, Stmts, stmt}
use Rattle.rules.specs.Reading.{repeat, has_parser, most_arguments, most_members, most_error, expr_tags, parser_tags, stmt_tags, place_tag_of, to_args, to_stmts, read_expr, read_target, read_stmt_as, read_stmt}
use Rattle.rules.specs.Reading.{PlaceTag, ExprTag, tag_bool, tag_bits, tag_place, tag_valid, tag_not, tag_complement, tag_binary, tag_cast, tag_slice, tag_concatenation, tag_call}
use Rattle.rules.specs.Reading.{StmtTag, tag_empty, tag_assign, tag_if, tag_block, tag_call_stmt, tag_apply, tag_return_value, tag_return, tag_exit, tag_set_valid, tag_set_invalid, tag_extract, tag_verify}
use Rattle.rules.proofs.Readers.{keeps-number, keeps-stands, keeps-list, keeps-place, keeps-expr, keeps-target, keeps-stmt, keeps-between}
use Rattle.shape.specs.Directory.{stmt_at}
use Rattle.shape.specs.Ends.{expr_at, stmts_at, EndedExpr, EndedStmt, EndedStmts}
use Rattle.shape.proofs.Ended.{own-stmt}
use Rattle.program.specs.Codes.{place_tag, member_count}
use Rattle.program.specs.Stands.{HoldsTag, StandsPlace, StandsExpr}
use Rattle.program.specs.Stands.{StandsStmt, on-empty, on-assign, on-if, on-block, on-call-stmt, on-apply, on-return-value, on_return, on-exit, on-set-valid, on-set-invalid, on-extract, on-verify}
use Rattle.program.specs.Stands.{StandsStmts, on-no-member, on-member}
use Rattle.program.proofs.Readings.{Reads, reads-to, reads-from, Both, both, Given, reads-pure, reads_here, Number, reads-number, Meant, reads-stands, Bounded, reads-between, Counted, reads-list, reads_none, Head, reads_more, reads-deep}
use Rattle.program.proofs.ExprsStand.{Numbered, numbered-at, place_number, expr_number, expr-tag, expr-at, expr-end, Placed, place-stands, CallStood, call-stands, args-from, expr-stands}

unfoldable stmt_number : StmtTag → ℕ
stmt_number tag_empty = 0
stmt_number tag_assign = 1
stmt_number tag_if = 2
stmt_number tag_block = 3
stmt_number tag_call_stmt = 4
stmt_number tag_apply = 5
stmt_number tag_return_value = 6
stmt_number tag_return = 7
stmt_number tag_exit = 8
stmt_number tag_set_valid = 9
stmt_number tag_set_invalid = 10
stmt_number tag_extract = 11
stmt_number tag_verify = 12

-- the parser's tags, where the version has them
parser-tags : (version : ℕ) → Numbered stmt_number 11 (parser_tags version)
unfolding Numbered stmt_number parser_tags
parser-tags version = go (has_parser version)
  where
    go : (b : Bool) → Numbered stmt_number 11 (elim b [ true ↦ tag_extract ∷ tag_verify ∷ [] | false ↦ [] ])
    go true = (refl, (refl, tt))
    go false = tt

stmt-tag : (version n : ℕ) (t : StmtTag) → get_elem? (stmt_tags version) n ≡ some t → n ≡ stmt_number t
unfolding Numbered stmt_number
stmt-tag version n t e = sym (add-zero n) ∙ numbered-at stmt_number 0 (stmt_tags version)
    (refl, (refl, (refl, (refl, (refl, (refl, (refl, (refl, (refl, (refl, (refl, parser-tags version))))))))))) n t e

-- a statement carries its index, and the slot at that index its end
pub stmt-at : {nums ends : List ℕ} {depth at : ℕ} {s : Stmt} → StandsStmt nums ends depth at s → stmt_at s ≡ at
unfolding stmt_at
stmt-at (on-empty t) = refl
stmt-at (on-assign t g p e) = refl
stmt-at (on-if t c a b) = refl
stmt-at (on-block t n s) = refl
stmt-at (on-call-stmt t f n xs) = refl
stmt-at (on-apply t n) = refl
stmt-at (on-return-value t e) = refl
stmt-at (on_return t) = refl
stmt-at (on-exit t) = refl
stmt-at (on-set-valid t n) = refl
stmt-at (on-set-invalid t n) = refl
stmt-at (on-extract t n) = refl
stmt-at (on-verify t c e) = refl

pub stmt-end : {nums ends : List ℕ} {depth at : ℕ} (s : Stmt) (end : ℕ) → StandsStmt nums ends depth at s
    → EndedStmt s end ends → get_or ends at 0 ≡ end
stmt-end {ends = ends} s end w h = rw (stmt-at w) at (own-stmt s end ends h)

-- an assignment's target
place-number : (version : ℕ) (x : Option ExprTag) (t : PlaceTag) → place_tag_of version x ≡ some t → x ≡ some (tag_place t)
unfolding place_tag_of
place-number version none t e = let z : ◌≡◌ {A = ℕ} 0 1 = cc in absurd (omega arith)
place-number version (some tag_bool) t e = let z : ◌≡◌ {A = ℕ} 0 1 = cc in absurd (omega arith)
place-number version (some tag_bits) t e = let z : ◌≡◌ {A = ℕ} 0 1 = cc in absurd (omega arith)
place-number version (some (tag_place u)) t e = let v : u ≡ t = cc in rw v
place-number version (some tag_valid) t e = let z : ◌≡◌ {A = ℕ} 0 1 = cc in absurd (omega arith)
place-number version (some tag_not) t e = let z : ◌≡◌ {A = ℕ} 0 1 = cc in absurd (omega arith)
place-number version (some tag_complement) t e = let z : ◌≡◌ {A = ℕ} 0 1 = cc in absurd (omega arith)
place-number version (some tag_binary) t e = let z : ◌≡◌ {A = ℕ} 0 1 = cc in absurd (omega arith)
place-number version (some tag_cast) t e = let z : ◌≡◌ {A = ℕ} 0 1 = cc in absurd (omega arith)
place-number version (some tag_slice) t e = let z : ◌≡◌ {A = ℕ} 0 1 = cc in absurd (omega arith)
place-number version (some tag_concatenation) t e = let z : ◌≡◌ {A = ℕ} 0 1 = cc in absurd (omega arith)
place-number version (some tag_call) t e = let z : ◌≡◌ {A = ℕ} 0 1 = cc in absurd (omega arith)

record Target (nums : List ℕ) (depth at : ℕ) (x : ℕ × Place) : Type 0 where
  pub index : x.0 ≡ at
  pub tag : HoldsTag nums depth at (place_tag x.1)
  pub stands : StandsPlace nums at x.1

target-stands : (version : ℕ) (nums : List ℕ) (depth at next : ℕ) (x : ℕ × Place)
    → Reads (read_target version depth) nums at next x → Target nums depth at x
unfolding read_target expr_number
target-stands version nums zero at next x r = absurd (reads-deep r)
target-stands version nums (suc d) at next x r =
    let b : Both _ _ nums at next x = both (keeps-stands _) (reads_here _ r) in
    let m : Meant (λ n. place_tag_of version (get_elem? (expr_tags version) n)) nums at b.mid b.result
    = reads-stands b.first in
    let c : Both _ _ nums b.mid next x = both (keeps-place version b.result) b.second in
    let p : Placed nums at c.mid b.result c.result
    = place-stands version nums at c.mid b.result c.result (reads-from m.next_is c.first) in
    let g : Given (at, c.result) x c.mid next = reads-pure c.second in
    let k : get_or nums at 0 ≡ place_number b.result
    = expr-tag version (get_or nums at 0) (tag_place b.result)
    (place-number version (get_elem? (expr_tags version) (get_or nums at 0)) b.result m.means) in
    rw (← g.same) (record {
      index = refl;
      tag = record { levels = omega arith; holds = record { inside = m.inside; is = k ∙ p.tag } };
      stands = p.stands;
    })

-- `inner` is the same one level down
module _ (version : ℕ) (nums ends : List ℕ) (d : ℕ) (inner : (at next : ℕ) (s : Stmt)
    → Reads (read_stmt version d) nums at next s → EndedStmt s next ends → StandsStmt nums ends (suc d - 1) at s) where
  -- members
  record MembersStood (m next : ℕ) (ss : Stmts) : Type 0 where
    pub stand : StandsStmts nums ends (suc d - 1) m ss
    pub begin : stmts_at ss next ≡ m

  members-more : (m mid next : ℕ) (s : Stmt) (ss : Stmts) → Reads (read_stmt version d) nums m mid s
      → EndedStmt s (stmts_at ss next) ends → MembersStood mid next ss → MembersStood m next (stmt s ss)
  unfolding stmts_at
  members-more m mid next s ss p h others =
      let ended : EndedStmt s mid ends = rw others.begin at h in
      let first : StandsStmt nums ends (suc d - 1) m s = inner m mid s p ended in
      record {
        stand = on-member {ss = ss} first (rw (stmt-end s mid first ended)
            others.stand);
        begin = stmt-at first;
      }

  members-stand : (n m next : ℕ) (ss : List Stmt) → Reads (repeat n (read_stmt version d)) nums m next ss
      → EndedStmts (to_stmts version ss) next ends → MembersStood m next (to_stmts version ss)
  unfolding to_stmts stmts_at EndedStmts
  members-stand zero m next ss r h =
      let g : Given [] ss m next = reads_none (read_stmt version d) r in
      rw (← g.same) (record { stand = on-no-member; begin = sym g.stays })
  members-stand (suc n) m next ss r h =
      let t : Head n (read_stmt version d) nums m next ss = reads_more (keeps-stmt version d) r in
      let k : EndedStmts (stmt t.member (to_stmts version t.others)) next ends = rw t.same at h in
      rw t.same (members-more m t.mid next t.member (to_stmts version t.others) t.first k.0
      (members-stand n t.mid next t.others t.rest k.1))

  members-count : (ss : List Stmt) → length ss ≡ member_count (to_stmts version ss)
  unfolding to_stmts member_count
  members-count [] = refl
  members-count (s ∷ ss) = let h : length ss ≡ member_count (to_stmts version ss) = members-count ss in omega arith

  operand : (at next : ℕ) (e : Expr) → Reads (read_expr version d) nums at next e → EndedExpr e next ends
      → StandsExpr nums ends (suc d - 1) at e
  operand at next e r h = rw (sub-one (suc d)) (expr-stands version nums ends d at next e r h)

  -- an if's parts
  record Parts (m : ℕ) (c : Expr) (a b : Stmt) : Type 0 where
    pub condition : StandsExpr nums ends (suc d - 1) m c
    pub first : StandsStmt nums ends (suc d - 1) (get_or ends m 0) a
    pub second : StandsStmt nums ends (suc d - 1) (get_or ends (get_or ends m 0) 0) b

  if-stands : (m i j next : ℕ) (c : Expr) (a b : Stmt) → Reads (read_expr version d) nums m i c
      → Reads (read_stmt version d) nums i j a → Reads (read_stmt version d) nums j next b
      → EndedExpr c (stmt_at a) ends → EndedStmt a (stmt_at b) ends → EndedStmt b next ends → Parts m c a b
  if-stands m i j next c a b p q r h k l =
      let second : StandsStmt nums ends (suc d - 1) j b = inner j next b r l in
      let ended_a : EndedStmt a j ends = rw (stmt-at second) at k in
      let first : StandsStmt nums ends (suc d - 1) i a = inner i j a q ended_a in
      let ended_c : EndedExpr c i ends = rw (stmt-at first) at h in
      let condition : StandsExpr nums ends (suc d - 1) m c = operand m i c p ended_c in
      let at_a : get_or ends m 0 ≡ i = expr-end c i condition ended_c in
      let at_b : get_or ends i 0 ≡ j = stmt-end a j first ended_a in
      record { condition = condition; first = rw at_a first; second = rw (at_a, at_b) second }

  module _ (at next : ℕ) (s : Stmt) (inside : at < length nums) where
    tagged : (n : ℕ) → get_or nums at 0 ≡ n → HoldsTag nums (suc d) at n
    tagged n k = record { levels = omega arith; holds = record { inside = inside; is = k } }

    stmt-as : (t : StmtTag) → get_or nums at 0 ≡ stmt_number t
        → Reads (read_stmt_as version t at (read_expr version d) (read_target version d) (read_stmt version d)) nums
        (at + 1) next s
        → EndedStmt s next ends → StandsStmt nums ends (suc d) at s
    unfolding read_stmt_as stmt_number EndedStmt
    stmt-as tag_empty k r h =
        let g : Given (empty at) s (at + 1) next = reads-pure r in
        rw (← g.same) (on-empty (tagged 0 k))
    stmt-as tag_assign k r h =
        let b : Both _ _ nums (at + 1) next s = both (keeps-target version d) r in
        let t : Target nums d (at + 1) b.result = target-stands version nums d (at + 1) b.mid b.result
        b.first in
        let c : Both _ _ nums b.mid next s = both (keeps-expr version d) b.second in
        let g : Given (assign at b.result.0 b.result.1 c.result) s c.mid next = reads-pure c.second in
        let f : EndedStmt (assign at b.result.0 b.result.1 c.result) next ends = rw (← g.same) at h in
        let v : StandsExpr nums ends (suc d - 1) b.mid c.result
        = operand b.mid next c.result (reads-to g.stays c.first) f.1.1 in
        rw (← g.same) (assigned b.result.0 b.result.1 c.result b.mid k t f.1.0 v)
      where
        assigned : (target : ℕ) (p : Place) (e : Expr) (mid : ℕ) → get_or nums at 0 ≡ 1
            → Target nums d (at + 1) (target, p)
            → get_or ends target 0 ≡ expr_at e → StandsExpr nums ends (suc d - 1) mid e
            → StandsStmt nums ends (suc d) at (assign at target p e)
        assigned target p e mid k t f v =
            let i : get_or ends (at + 1) 0 ≡ mid = rw (← t.index) (f ∙ expr-at v) in
            rw t.index (on-assign {p = p} {e = e} (tagged 1 k) (rw (sub-one (suc d)) t.tag) t.stands (rw i v))
    stmt-as tag_if k r h =
        let x : Both _ _ nums (at + 1) next s = both (keeps-expr version d) r in
        let y : Both _ _ nums x.mid next s = both (keeps-stmt version d) x.second in
        let z : Both _ _ nums y.mid next s = both (keeps-stmt version d) y.second in
        let g : Given (if_else at x.result y.result z.result) s z.mid next = reads-pure z.second in
        let f : EndedStmt (if_else at x.result y.result z.result) next ends = rw (← g.same) at h in
        let p : Parts (at + 1) x.result y.result z.result
        = if-stands (at + 1) x.mid y.mid next x.result y.result z.result x.first y.first
        (reads-to g.stays z.first) f.1.0 f.1.1.0 f.1.1.1 in
        rw (← g.same) (on-if (tagged 2 k) p.condition p.first p.second)
    stmt-as tag_block k r h =
        let b : Both _ _ nums (at + 1) next s = both (keeps-list 0 most_members (keeps-stmt version d)) r in
        let g : Given (block at (to_stmts version b.result)) s b.mid next = reads-pure b.second in
        let f : EndedStmt (block at (to_stmts version b.result)) next ends = rw (← g.same) at h in
        let c : Counted 0 most_members (read_stmt version d) nums (at + 1) next b.result
        = reads-list (reads-to g.stays b.first) in
        let i : at + 1 + 1 ≡ at + 2 = omega arith in
        rw (← g.same) (on-block (tagged 3 k) (rw (members-count b.result) at c.holds)
        (members-stand (length b.result) (at + 2) next b.result (reads-from i c.members) f.1).stand)
    stmt-as tag_call_stmt k r h =
        let b : Both _ _ nums (at + 1) next s = both keeps-number r in
        let n : Number nums (at + 1) b.mid b.result = reads-number b.first in
        let c : Both _ _ nums b.mid next s = both (keeps-list 0 most_arguments (keeps-expr version d)) b.second in
        let g : Given (call_stmt at b.result (to_args version c.result)) s c.mid next = reads-pure c.second in
        let f : EndedStmt (call_stmt at b.result (to_args version c.result)) next ends = rw (← g.same) at h in
        let i : b.mid ≡ at + 2 = omega (arith, n.next_is) in
        let w : CallStood version nums ends d operand (at + 2) next c.result
        = call-stands version nums ends d operand (at + 2) next c.result
        (reads-to g.stays (reads-from i c.first)) f.1 in
        rw (← g.same) (on-call-stmt (tagged 4 k) n.holds w.count (args-from at w.stand))
    stmt-as tag_apply k r h =
        let b : Both _ _ nums (at + 1) next s = both keeps-number r in
        let n : Number nums (at + 1) b.mid b.result = reads-number b.first in
        let g : Given (apply at b.result) s b.mid next = reads-pure b.second in
        rw (← g.same) (on-apply (tagged 5 k) n.holds)
    stmt-as tag_return_value k r h =
        let b : Both _ _ nums (at + 1) next s = both (keeps-expr version d) r in
        let g : Given (return_value at b.result) s b.mid next = reads-pure b.second in
        let f : EndedStmt (return_value at b.result) next ends = rw (← g.same) at h in
        rw (← g.same) (on-return-value (tagged 6 k)
        (operand (at + 1) next b.result (reads-to g.stays b.first) f.1))
    stmt-as tag_return k r h =
        let g : Given (return at) s (at + 1) next = reads-pure r in
        rw (← g.same) (on_return (tagged 7 k))
    stmt-as tag_exit k r h =
        let g : Given (exit at) s (at + 1) next = reads-pure r in
        rw (← g.same) (on-exit (tagged 8 k))
    stmt-as tag_set_valid k r h =
        let b : Both _ _ nums (at + 1) next s = both keeps-number r in
        let n : Number nums (at + 1) b.mid b.result = reads-number b.first in
        let g : Given (set_valid at b.result) s b.mid next = reads-pure b.second in
        rw (← g.same) (on-set-valid (tagged 9 k) n.holds)
    stmt-as tag_set_invalid k r h =
        let b : Both _ _ nums (at + 1) next s = both keeps-number r in
        let n : Number nums (at + 1) b.mid b.result = reads-number b.first in
        let g : Given (set_invalid at b.result) s b.mid next = reads-pure b.second in
        rw (← g.same) (on-set-invalid (tagged 10 k) n.holds)
    stmt-as tag_extract k r h =
        let b : Both _ _ nums (at + 1) next s = both keeps-number r in
        let n : Number nums (at + 1) b.mid b.result = reads-number b.first in
        let g : Given (extract at b.result) s b.mid next = reads-pure b.second in
        rw (← g.same) (on-extract (tagged 11 k) n.holds)
    stmt-as tag_verify k r h =
        let b : Both _ _ nums (at + 1) next s = both (keeps-expr version d) r in
        let c : Both _ _ nums b.mid next s = both (keeps-between 0 most_error) b.second in
        let e : Bounded 0 most_error nums b.mid c.mid c.result = reads-between c.first in
        let g : Given (verify at b.result c.result) s c.mid next = reads-pure c.second in
        let f : EndedStmt (verify at b.result c.result) next ends = rw (← g.same) at h in
        let last : next - 1 ≡ b.mid = omega (arith, e.next_is, g.stays) in
        let k' : EndedExpr b.result b.mid ends = rw last at f.1 in
        let v : StandsExpr nums ends (suc d - 1) (at + 1) b.result = operand (at + 1) b.mid b.result
        b.first k' in
        let i : get_or ends (at + 1) 0 ≡ b.mid = expr-end b.result b.mid v k' in
        rw (← g.same) (on-verify {e = c.result} (tagged 12 k) v (rw i e.holds))

-- a statement that was read stands
pub stmt-stands : (version : ℕ) (nums ends : List ℕ) (depth at next : ℕ) (s : Stmt)
    → Reads (read_stmt version depth) nums at next s → EndedStmt s next ends → StandsStmt nums ends depth at s
unfolding read_stmt
stmt-stands version nums ends zero at next s r h = absurd (reads-deep r)
stmt-stands version nums ends (suc d) at next s r h =
    let b : Both _ _ nums at next s = both (keeps-stands _) (reads_here _ r) in
    let m : Meant (get_elem? (stmt_tags version)) nums at b.mid b.result = reads-stands b.first in
    stmt-as version nums ends d (λ at next s r h. rw (sub-one (suc d)) (stmt-stands version nums ends d at next s r h))
    at next s m.inside b.result (stmt-tag version (get_or nums at 0) b.result m.means)
    (reads-from m.next_is b.second) h
