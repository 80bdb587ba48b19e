-- From reading to standing: an expression that the rules' readers gave, and whose ends are laid, stands where it was
-- read.
use mathlib.Core.Option.{some}
use mathlib.Core.Path.{◌≡◌, refl, sym, ◌∙◌}
use mathlib.Core.List.{List, [], ◌∷◌}
use Prim.Native.Nat.{ℕ, zero, suc, ◌+◌, ◌-◌, ◌<◌}
use native.Mathlib.Omega.{arith}
use native.Mathlib.Numerals.{sub-one}
use native.Mathlib.Nat.{add-zero}
use lib.ListN.{length, get_or, get_elem?}
use Rattle.rules.specs.Syntax.{Operator, Place, local, parameter, global, field}
use Rattle.rules.specs.Syntax.{Expr, bool_literal, bits_literal, read_of, valid_of, negation, complement, binary, cast, slice, concatenation, call_expr, Args, arg}
use Rattle.rules.specs.Words.{widest}
use Rattle.rules.specs.Reading.{repeat, list_of, highest_bound, most_arguments, operators, expr_tags, read_place, to_args, read_expr_as, read_expr}
use Rattle.rules.specs.Reading.{PlaceTag, tag_local, tag_parameter, tag_global, tag_field, ExprTag, tag_bool, tag_bits, tag_place, tag_valid, tag_not, tag_complement, tag_binary, tag_cast, tag_slice, tag_concatenation, tag_call}
use Rattle.rules.proofs.Readers.{keeps-number, keeps-stands, keeps-between, keeps-list, keeps-place, keeps-expr}
use Rattle.shape.specs.Ends.{expr_at, args_at, EndedExpr, EndedArgs}
use Rattle.shape.proofs.Ended.{own-expr}
use Rattle.program.specs.Codes.{operator_number, place_tag, arg_count}
use Rattle.program.specs.Stands.{Holds, HoldsWithin, HoldsTag, StandsPlace}
use Rattle.program.specs.Stands.{StandsExpr, on_bool, on-bits, on-place, on-valid, on-not, on-complement, on-binary, on-cast, on-slice, on-concatenation, on_call}
use Rattle.program.specs.Stands.{StandsArgs, on_none, on-arg}
use Rattle.program.proofs.Readings.{Reads, reads-to, reads-from, Both, both, Given, reads-pure, reads_here, Number, reads-number, Meant, reads-stands, Bounded, reads-between, Counted, reads-list, reads_none, Head, reads_more, reads-deep}

-- a list whose members are numbered in their order: the position of a member is its number
unfoldable pub Numbered : {A : Type 0} → (A → ℕ) → ℕ → List A → Type 0
Numbered f k [] = Unit
Numbered f k (x ∷ xs) = (f x ≡ k) × Numbered f (suc k) xs

pub numbered-at : {A : Type 0} (f : A → ℕ) (k : ℕ) (xs : List A) → Numbered f k xs → (n : ℕ) (x : A)
    → get_elem? xs n ≡ some x → n + k ≡ f x
unfolding Numbered
numbered-at f k [] h n x e = let z : ◌≡◌ {A = ℕ} 0 1 = cc in absurd (omega arith)
numbered-at f k (y ∷ ys) h zero x e =
    let v : y ≡ x = cc in
    let w : f x ≡ k = rw v at h.0 in
    omega (arith, w)
numbered-at f k (y ∷ ys) h (suc n) x e =
    let w : n + suc k ≡ f x = numbered-at f (suc k) ys h.1 n x e in
    omega (arith, w)

-- the numbers of tags
unfoldable pub place_number : PlaceTag → ℕ
place_number tag_local = 2
place_number tag_parameter = 3
place_number tag_global = 4
place_number tag_field = 5

unfoldable pub expr_number : ExprTag → ℕ
expr_number tag_bool = 0
expr_number tag_bits = 1
expr_number (tag_place t) = place_number t
expr_number tag_valid = 6
expr_number tag_not = 7
expr_number tag_complement = 8
expr_number tag_binary = 9
expr_number tag_cast = 10
expr_number tag_slice = 11
expr_number tag_concatenation = 12
expr_number tag_call = 13

module _ (version : ℕ) where
  pub expr-tag : (n : ℕ) (t : ExprTag) → get_elem? (expr_tags version) n ≡ some t → n ≡ expr_number t
  unfolding Numbered expr_number place_number
  expr-tag n t e = sym (add-zero n) ∙ numbered-at expr_number 0 (expr_tags version) (
    refl,
    (
      refl,
      (
        refl,
        (
          refl,
          (
            refl,
            (
              refl,
              (
                refl,
                (
                  refl,
                  (
                    refl,
                    (
                      refl,
                      (
                        refl,
                        (
                          refl,
                          (
                            refl,
                            (refl, tt),
                          ),
                        ),
                      ),
                    ),
                  ),
                ),
              ),
            ),
          ),
        ),
      ),
    ),
  ) n t e

  operator-is : (n : ℕ) (o : Operator) → get_elem? (operators version) n ≡ some o → n ≡ operator_number o
  unfolding Numbered operator_number
  operator-is n o e = sym (add-zero n) ∙ numbered-at operator_number 0 (operators version) (
    refl,
    (
      refl,
      (
        refl,
        (
          refl,
          (
            refl,
            (
              refl,
              (
                refl,
                (
                  refl,
                  (
                    refl,
                    (
                      refl,
                      (
                        refl,
                        (
                          refl,
                          (
                            refl,
                            (refl, tt),
                          ),
                        ),
                      ),
                    ),
                  ),
                ),
              ),
            ),
          ),
        ),
      ),
    ),
  ) n o e

-- a construct carries its index
pub expr-at : {nums ends : List ℕ} {depth at : ℕ} {e : Expr} → StandsExpr nums ends depth at e → expr_at e ≡ at
unfolding expr_at
expr-at (on_bool t n) = refl
expr-at (on-bits t w n) = refl
expr-at (on-place t p) = refl
expr-at (on-valid t g) = refl
expr-at (on-not t a) = refl
expr-at (on-complement t a) = refl
expr-at (on-binary t o a b) = refl
expr-at (on-cast t w a) = refl
expr-at (on-slice t h l a) = refl
expr-at (on-concatenation t a b) = refl
expr-at (on_call t f n xs) = refl

-- and the slot at that index its end
pub expr-end : {nums ends : List ℕ} {depth at : ℕ} (e : Expr) (end : ℕ) → StandsExpr nums ends depth at e
    → EndedExpr e end ends → get_or ends at 0 ≡ end
expr-end {ends = ends} e end s h = rw (expr-at s) at (own-expr e end ends h)

-- at an index that is the same
pub holds_at : {nums : List ℕ} {at other n : ℕ} → at ≡ other → Holds nums at n → Holds nums other n
holds_at e h = rw (← e) h

bounded_at : {least most : ℕ} {nums : List ℕ} {at other n : ℕ} → at ≡ other → HoldsWithin least most nums at n
    → HoldsWithin least most nums other n
bounded_at e h = rw (← e) h

-- the numbers behind a place's tag
pub record Placed (nums : List ℕ) (at next : ℕ) (t : PlaceTag) (p : Place) : Type 0 where
  pub tag : place_number t ≡ place_tag p
  pub stands : StandsPlace nums at p

module _ (version : ℕ) (nums : List ℕ) (at next : ℕ) where
  pub place-stands : (t : PlaceTag) (p : Place) → Reads (read_place version t) nums (at + 1) next p
      → Placed nums at next t p
  unfolding read_place StandsPlace place_number place_tag
  place-stands tag_local p r =
      let b : Both _ _ nums (at + 1) next p = both keeps-number r in
      let n : Number nums (at + 1) b.mid b.result = reads-number b.first in
      let g : Given (local b.result) p b.mid next = reads-pure b.second in
      rw (← g.same) (record { tag = refl; stands = n.holds })
  place-stands tag_parameter p r =
      let b : Both _ _ nums (at + 1) next p = both keeps-number r in
      let n : Number nums (at + 1) b.mid b.result = reads-number b.first in
      let g : Given (parameter b.result) p b.mid next = reads-pure b.second in
      rw (← g.same) (record { tag = refl; stands = n.holds })
  place-stands tag_global p r =
      let b : Both _ _ nums (at + 1) next p = both keeps-number r in
      let n : Number nums (at + 1) b.mid b.result = reads-number b.first in
      let g : Given (global b.result) p b.mid next = reads-pure b.second in
      rw (← g.same) (record { tag = refl; stands = n.holds })
  place-stands tag_field p r =
      let b : Both _ _ nums (at + 1) next p = both keeps-number r in
      let n : Number nums (at + 1) b.mid b.result = reads-number b.first in
      let d : Both _ _ nums b.mid next p = both keeps-number b.second in
      let m : Number nums b.mid d.mid d.result = reads-number d.first in
      let g : Given (field b.result d.result) p d.mid next = reads-pure d.second in
      let e : b.mid ≡ at + 2 = omega (arith, n.next_is) in
      rw (← g.same) (record { tag = refl; stands = (n.holds, holds_at e m.holds) })

pub args-from : {nums ends : List ℕ} {depth : ℕ} {xs : Args} (at : ℕ) → StandsArgs nums ends depth (at + 2 + 1) xs
    → StandsArgs nums ends depth (at + 3) xs
args-from at s = let e : at + 2 + 1 ≡ at + 3 = omega arith in rw e at s

-- expressions: `operand` is the same one level down
module _ (version : ℕ) (nums ends : List ℕ) (d : ℕ) (operand : (at next : ℕ) (e : Expr)
    → Reads (read_expr version d) nums at next e → EndedExpr e next ends → StandsExpr nums ends (suc d - 1) at e) where
  -- two operands, one behind the other
  record Two (m : ℕ) (a b : Expr) : Type 0 where
    pub left : StandsExpr nums ends (suc d - 1) m a
    pub right : StandsExpr nums ends (suc d - 1) (get_or ends m 0) b

  two-stand : (m mid next : ℕ) (a b : Expr) → Reads (read_expr version d) nums m mid a
      → Reads (read_expr version d) nums mid next b
      → EndedExpr a (expr_at b) ends → EndedExpr b next ends → Two m a b
  two-stand m mid next a b p q h k =
      let right : StandsExpr nums ends (suc d - 1) mid b = operand mid next b q k in
      let ended : EndedExpr a mid ends = rw (expr-at right) at h in
      let left : StandsExpr nums ends (suc d - 1) m a = operand m mid a p ended in
      record { left = left; right = rw (expr-end a mid left ended) right }

  -- arguments
  record ArgsStood (m next : ℕ) (xs : Args) : Type 0 where
    pub stand : StandsArgs nums ends (suc d - 1) m xs
    pub begin : args_at xs next ≡ m

  args_more : (m mid next : ℕ) (a : Expr) (xs : Args) → Reads (read_expr version d) nums m mid a
      → EndedExpr a (args_at xs next) ends → ArgsStood mid next xs → ArgsStood m next (arg a xs)
  unfolding args_at
  args_more m mid next a xs p h others =
      let ended : EndedExpr a mid ends = rw others.begin at h in
      let first : StandsExpr nums ends (suc d - 1) m a = operand m mid a p ended in
      record { stand = on-arg {xs = xs} first (rw (expr-end a mid first ended) others.stand); begin = expr-at first }

  args-stand : (n m next : ℕ) (xs : List Expr) → Reads (repeat n (read_expr version d)) nums m next xs
      → EndedArgs (to_args version xs) next ends → ArgsStood m next (to_args version xs)
  unfolding to_args args_at EndedArgs
  args-stand zero m next xs r h =
      let g : Given [] xs m next = reads_none (read_expr version d) r in
      rw (← g.same) (record { stand = on_none; begin = sym g.stays })
  args-stand (suc n) m next xs r h =
      let t : Head n (read_expr version d) nums m next xs = reads_more (keeps-expr version d) r in
      let k : EndedArgs (arg t.member (to_args version t.others)) next ends = rw t.same at h in
      rw t.same (args_more m t.mid next t.member (to_args version t.others) t.first k.0
      (args-stand n t.mid next t.others t.rest k.1))

  args_count : (xs : List Expr) → length xs ≡ arg_count (to_args version xs)
  unfolding to_args arg_count
  args_count [] = refl
  args_count (x ∷ xs) = let h : length xs ≡ arg_count (to_args version xs) = args_count xs in omega arith

  -- a call's arguments behind its tag and name
  pub record CallStood (at next : ℕ) (xs : List Expr) : Type 0 where
    pub count : HoldsWithin 0 most_arguments nums at (arg_count (to_args version xs))
    pub stand : StandsArgs nums ends (suc d - 1) (at + 1) (to_args version xs)

  pub call-stands : (at next : ℕ) (xs : List Expr) → Reads (list_of 0 most_arguments (read_expr version d)) nums at next xs
      → EndedArgs (to_args version xs) next ends → CallStood at next xs
  call-stands at next xs r h =
      let c : Counted 0 most_arguments (read_expr version d) nums at next xs = reads-list r in
      record {
        count = rw (args_count xs) at c.holds;
        stand = (args-stand (length xs) (at + 1) next xs c.members h).stand;
      }

  -- by tag
  module _ (at next : ℕ) (e : Expr) (inside : at < length nums) where
    tagged : (n : ℕ) → get_or nums at 0 ≡ n → HoldsTag nums (suc d) at n
    tagged n k = record { levels = omega arith; holds = record { inside = inside; is = k } }

    expr-as : (t : ExprTag) → get_or nums at 0 ≡ expr_number t
        → Reads (read_expr_as version t at (read_expr version d)) nums (at + 1) next e → EndedExpr e next ends
        → StandsExpr nums ends (suc d) at e
    unfolding read_expr_as expr_number EndedExpr
    expr-as tag_bool k r h =
        let b : Both _ _ nums (at + 1) next e = both keeps-number r in
        let n : Number nums (at + 1) b.mid b.result = reads-number b.first in
        let g : Given (bool_literal at b.result) e b.mid next = reads-pure b.second in
        rw (← g.same) (on_bool (tagged 0 k) n.holds)
    expr-as tag_bits k r h =
        let b : Both _ _ nums (at + 1) next e = both (keeps-between 1 widest) r in
        let w : Bounded 1 widest nums (at + 1) b.mid b.result = reads-between b.first in
        let c : Both _ _ nums b.mid next e = both keeps-number b.second in
        let n : Number nums b.mid c.mid c.result = reads-number c.first in
        let g : Given (bits_literal at b.result c.result) e c.mid next = reads-pure c.second in
        let i : b.mid ≡ at + 2 = omega (arith, w.next_is) in
        rw (← g.same) (on-bits (tagged 1 k) w.holds (holds_at i n.holds))
    expr-as (tag_place t) k r h =
        let b : Both _ _ nums (at + 1) next e = both (keeps-place version t) r in
        let p : Placed nums at b.mid t b.result = place-stands version nums at b.mid t b.result
        b.first in
        let g : Given (read_of at b.result) e b.mid next = reads-pure b.second in
        rw (← g.same) (on-place (tagged (place_tag b.result) (k ∙ p.tag)) p.stands)
    expr-as tag_valid k r h =
        let b : Both _ _ nums (at + 1) next e = both keeps-number r in
        let n : Number nums (at + 1) b.mid b.result = reads-number b.first in
        let g : Given (valid_of at b.result) e b.mid next = reads-pure b.second in
        rw (← g.same) (on-valid (tagged 6 k) n.holds)
    expr-as tag_not k r h =
        let b : Both _ _ nums (at + 1) next e = both (keeps-expr version d) r in
        let g : Given (negation at b.result) e b.mid next = reads-pure b.second in
        let f : EndedExpr (negation at b.result) next ends = rw (← g.same) at h in
        rw (← g.same) (on-not (tagged 7 k) (operand (at + 1) next b.result (reads-to g.stays b.first) f.1))
    expr-as tag_complement k r h =
        let b : Both _ _ nums (at + 1) next e = both (keeps-expr version d) r in
        let g : Given (complement at b.result) e b.mid next = reads-pure b.second in
        let f : EndedExpr (complement at b.result) next ends = rw (← g.same) at h in
        rw (← g.same) (on-complement (tagged 8 k)
        (operand (at + 1) next b.result (reads-to g.stays b.first) f.1))
    expr-as tag_binary k r h =
        let b : Both _ _ nums (at + 1) next e = both (keeps-stands _) r in
        let m : Meant (get_elem? (operators version)) nums (at + 1) b.mid b.result = reads-stands b.first in
        let c : Both _ _ nums b.mid next e = both (keeps-expr version d) b.second in
        let u : Both _ _ nums c.mid next e = both (keeps-expr version d) c.second in
        let g : Given (binary at b.result c.result u.result) e u.mid next = reads-pure u.second in
        let f : EndedExpr (binary at b.result c.result u.result) next ends = rw (← g.same) at h in
        let i : b.mid ≡ at + 2 = omega (arith, m.next_is) in
        let o : Holds nums (at + 1) (operator_number b.result)
        = record { inside = m.inside; is = operator-is version (get_or nums (at + 1) 0) b.result m.means } in
        let w : Two (at + 2) c.result u.result
        = two-stand (at + 2) c.mid next c.result u.result (reads-from i c.first)
        (reads-to g.stays u.first) f.1.0 f.1.1 in
        rw (← g.same) (on-binary (tagged 9 k) o w.left w.right)
    expr-as tag_cast k r h =
        let b : Both _ _ nums (at + 1) next e = both (keeps-between 1 widest) r in
        let w : Bounded 1 widest nums (at + 1) b.mid b.result = reads-between b.first in
        let c : Both _ _ nums b.mid next e = both (keeps-expr version d) b.second in
        let g : Given (cast at b.result c.result) e c.mid next = reads-pure c.second in
        let f : EndedExpr (cast at b.result c.result) next ends = rw (← g.same) at h in
        let i : b.mid ≡ at + 2 = omega (arith, w.next_is) in
        rw (← g.same) (on-cast (tagged 10 k) w.holds
        (operand (at + 2) next c.result (reads-to g.stays (reads-from i c.first)) f.1))
    expr-as tag_slice k r h =
        let b : Both _ _ nums (at + 1) next e = both (keeps-between 0 highest_bound) r in
        let w : Bounded 0 highest_bound nums (at + 1) b.mid b.result = reads-between b.first in
        let c : Both _ _ nums b.mid next e = both (keeps-between 0 highest_bound) b.second in
        let v : Bounded 0 highest_bound nums b.mid c.mid c.result = reads-between c.first in
        let u : Both _ _ nums c.mid next e = both (keeps-expr version d) c.second in
        let g : Given (slice at b.result c.result u.result) e u.mid next = reads-pure u.second in
        let f : EndedExpr (slice at b.result c.result u.result) next ends = rw (← g.same) at h in
        let i : b.mid ≡ at + 2 = omega (arith, w.next_is) in
        let j : c.mid ≡ at + 3 = omega (arith, v.next_is, i) in
        rw (← g.same) (on-slice (tagged 11 k) w.holds (bounded_at i v.holds)
        (operand (at + 3) next u.result (reads-to g.stays (reads-from j u.first)) f.1))
    expr-as tag_concatenation k r h =
        let c : Both _ _ nums (at + 1) next e = both (keeps-expr version d) r in
        let u : Both _ _ nums c.mid next e = both (keeps-expr version d) c.second in
        let g : Given (concatenation at c.result u.result) e u.mid next = reads-pure u.second in
        let f : EndedExpr (concatenation at c.result u.result) next ends = rw (← g.same) at h in
        let w : Two (at + 1) c.result u.result
        = two-stand (at + 1) c.mid next c.result u.result c.first (reads-to g.stays u.first) f.1.0
        f.1.1 in
        rw (← g.same) (on-concatenation (tagged 12 k) w.left w.right)
    expr-as tag_call k r h =
        let b : Both _ _ nums (at + 1) next e = both keeps-number r in
        let n : Number nums (at + 1) b.mid b.result = reads-number b.first in
        let c : Both _ _ nums b.mid next e = both (keeps-list 0 most_arguments (keeps-expr version d)) b.second in
        let g : Given (call_expr at b.result (to_args version c.result)) e c.mid next = reads-pure c.second in
        let f : EndedExpr (call_expr at b.result (to_args version c.result)) next ends = rw (← g.same) at h in
        let i : b.mid ≡ at + 2 = omega (arith, n.next_is) in
        let w : CallStood (at + 2) next c.result
        = call-stands (at + 2) next c.result (reads-to g.stays (reads-from i c.first)) f.1 in
        rw (← g.same) (on_call (tagged 13 k) n.holds w.count (args-from at w.stand))

-- an expression that was read stands
pub expr-stands : (version : ℕ) (nums ends : List ℕ) (depth at next : ℕ) (e : Expr)
    → Reads (read_expr version depth) nums at next e → EndedExpr e next ends → StandsExpr nums ends depth at e
unfolding read_expr
expr-stands version nums ends zero at next e r h = absurd (reads-deep r)
expr-stands version nums ends (suc d) at next e r h =
    let b : Both _ _ nums at next e = both (keeps-stands _) (reads_here _ r) in
    let m : Meant (get_elem? (expr_tags version)) nums at b.mid b.result = reads-stands b.first in
    expr-as version nums ends d (λ at next e r h. rw (sub-one (suc d)) (expr-stands version nums ends d at next e r h))
    at next e m.inside b.result (expr-tag version (get_or nums at 0) b.result m.means)
    (reads-from m.next_is b.second) h
