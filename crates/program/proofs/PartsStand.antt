-- From reading to standing: header types, globals, callables, tables.
use mathlib.Core.Bool.{Bool, true, false}
use mathlib.Core.Option.{Option, none, some}
use mathlib.Core.Path.{◌≡◌, refl, sym, ◌∙◌}
use mathlib.Core.List.{List, []}
use Prim.Native.Nat.{ℕ, zero, suc, ◌+◌, ◌-◌, ◌*◌, ◌≤◌, ◌<◌}
use native.Mathlib.Omega.{arith}
use lib.Dec.{leb}
use lib.ListN.{length, get_or, get_elem?}
use borrow.Author.Tests.{leb-true}
use Rattle.rules.specs.Words.{widest}
use Rattle.rules.specs.Syntax.{Ty, bits, GlobalTy, variable, header, Direction, Stmt}
use Rattle.rules.specs.Syntax.{HeaderTy, Global, Parameter, Callable, Numeral}
use Rattle.rules.specs.Reading.{between, stands_for, within, repeat, deepest, most_fields, most_parameters, most_locals}
use Rattle.rules.specs.Reading.{CallableKind, kind_action, kind_function, callable_kinds, directions, bits_of, type_of, or_header, global_type_of}
use Rattle.rules.specs.Reading.{read_header, read_global, read_parameter, read_returns, read_callable, read_numeral}
use Rattle.rules.proofs.Readers.{keeps-number, keeps-stands, keeps-between, keeps-list, keeps-stmt, keeps-parameter, keeps-returns, keeps-numeral}
use Rattle.shape.specs.Ends.{first_at, numeral_at, EndedCallable}
use Rattle.program.specs.Codes.{ty_of, header_number, direction_number, callable_kind_number}
use Rattle.program.specs.Stands.{Holds, HoldsWithin, HoldsTy, StandsStmt, StandsWidths, StandsTypes, StandsParameters, StandsNumeral, StandsNumerals, StandsHeader, HoldsGlobalTy, StandsGlobal, HoldsReturns, parameters_at, locals_at, body_at, StandsCallable}
use Rattle.program.proofs.Readings.{Reads, reads-to, reads-from, Both, both, Given, reads-pure, reads_here, Number, reads-number, Meant, reads-stands, within-some, Bounded, reads-between, Counted, reads-list, reads_none, Head, reads_more}
use Rattle.program.proofs.ExprsStand.{Numbered, numbered-at}
use Rattle.program.proofs.StmtsStand.{stmt-stands}
use native.Mathlib.Nat.{add-zero}

-- a type of a value
type-means : (version n : ℕ) (t : Ty) → type_of version n ≡ some t → (n ≤ widest) × (ty_of n ≡ t)
unfolding type_of bits_of ty_of
type-means version zero t e = (omega arith, (cc))
type-means version (suc n) t e = go (within 1 widest (suc n)) refl e
  where
    go : (x : Option ℕ) → within 1 widest (suc n) ≡ x → bits_of version x ≡ some t
        → (suc n ≤ widest) × (bits (suc n) ≡ t)
    go none w f = let z : ◌≡◌ {A = ℕ} 0 1 = cc in absurd (omega arith)
    go (some m) w f =
        let i : (suc n ≡ m) × ((1 ≤ suc n) × (suc n ≤ widest)) = within-some 1 widest (suc n) m w in
        let same : bits m ≡ t = cc in
        (i.1.1, rw i.0 same)

ty-holds : (version : ℕ) {nums : List ℕ} {at next : ℕ} {t : Ty} → Meant (type_of version) nums at next t
    → HoldsTy nums at t
ty-holds version {nums} {at} {next} {t} m =
    let e : (get_or nums at 0 ≤ widest) × (ty_of (get_or nums at 0) ≡ t) = type-means version (get_or nums at 0) t
    m.means in
    record { inside = m.inside; most = e.0; is = e.1 }

-- the kinds of callables
unfoldable kind_number : CallableKind → ℕ
kind_number kind_action = 0
kind_number kind_function = 1

-- lists of numbers
widths-stand : (n : ℕ) (nums : List ℕ) (at next : ℕ) (ws : List ℕ) → Reads (repeat n (between 1 widest)) nums at next ws
    → StandsWidths nums at ws
unfolding StandsWidths
widths-stand zero nums at next ws r =
    let g : Given [] ws at next = reads_none (between 1 widest) r in
    rw (← g.same) tt
widths-stand (suc n) nums at next ws r =
    let t : Head n (between 1 widest) nums at next ws = reads_more (keeps-between 1 widest) r in
    let b : Bounded 1 widest nums at t.mid t.member = reads-between t.first in
    rw t.same (b.holds, widths-stand n nums (at + 1) next t.others (reads-from b.next_is t.rest))

module _ (version : ℕ) where
  types-stand : (n : ℕ) (nums : List ℕ) (at next : ℕ) (ts : List Ty)
      → Reads (repeat n (stands_for (type_of version))) nums at next ts → StandsTypes nums at ts
  unfolding StandsTypes
  types-stand zero nums at next ts r =
      let g : Given [] ts at next = reads_none (stands_for (type_of version)) r in
      rw (← g.same) tt
  types-stand (suc n) nums at next ts r =
      let t : Head n (stands_for (type_of version)) nums at next ts = reads_more (keeps-stands _) r in
      let m : Meant (type_of version) nums at t.mid t.member = reads-stands t.first in
      rw t.same (ty-holds version m, types-stand n nums (at + 1) next t.others (reads-from m.next_is t.rest))

  direction-is : (n : ℕ) (d : Direction) → get_elem? (directions version) n ≡ some d → n ≡ direction_number d
  unfolding Numbered direction_number
  direction-is n d e =
      sym (add-zero n) ∙ numbered-at direction_number 0 (directions version) (refl, (refl, (refl, (refl, tt)))) n d e

  record ParameterStood (nums : List ℕ) (at next : ℕ) (p : Parameter) : Type 0 where
    pub direction : Holds nums at (direction_number p.direction)
    pub ty : HoldsTy nums (at + 1) p.ty
    pub next_is : next ≡ at + 2

  parameter-stands : (nums : List ℕ) (at next : ℕ) (p : Parameter) → Reads (read_parameter version) nums at next p
      → ParameterStood nums at next p
  unfolding read_parameter
  parameter-stands nums at next p r =
      let b : Both _ _ nums at next p = both (keeps-stands _) r in
      let m : Meant (get_elem? (directions version)) nums at b.mid b.result = reads-stands b.first in
      let c : Both _ _ nums b.mid next p = both (keeps-stands _) b.second in
      let t : Meant (type_of version) nums (at + 1) c.mid c.result = reads-stands (reads-from m.next_is
      c.first) in
      let g : Given (record { direction = b.result; ty = c.result }) p c.mid next = reads-pure c.second in
      rw (← g.same) (record {
        direction = record { inside = m.inside; is = direction-is (get_or nums at 0) b.result m.means };
        ty = ty-holds version t;
        next_is = omega (arith, t.next_is, g.stays);
      })

  record ParametersStood (nums : List ℕ) (at next : ℕ) (ps : List Parameter) : Type 0 where
    pub stand : StandsParameters nums at ps
    pub next_is : next ≡ at + 2 * length ps

  parameters-stand : (n : ℕ) (nums : List ℕ) (at next : ℕ) (ps : List Parameter)
      → Reads (repeat n (read_parameter version)) nums at next ps → ParametersStood nums at next ps
  unfolding StandsParameters
  parameters-stand zero nums at next ps r =
      let g : Given [] ps at next = reads_none (read_parameter version) r in
      rw (← g.same) (record { stand = tt; next_is = omega (arith, g.stays) })
  parameters-stand (suc n) nums at next ps r =
      let t : Head n (read_parameter version) nums at next ps = reads_more (keeps-parameter version) r in
      let p : ParameterStood nums at t.mid t.member
      = parameter-stands nums at t.mid t.member t.first in
      let s : ParametersStood nums (at + 2) next t.others
      = parameters-stand n nums (at + 2) next t.others (reads-from p.next_is t.rest) in
      rw t.same (record {
        stand = (p.direction, (p.ty, s.stand));
        next_is = omega (arith, s.next_is);
      })

  pub record NumeralStood (nums : List ℕ) (at next : ℕ) (x : Numeral) : Type 0 where
    pub stands : StandsNumeral nums at x
    pub next_is : next ≡ at + 1

  pub numeral-stands : (nums : List ℕ) (at next : ℕ) (x : Numeral) → Reads (read_numeral version) nums at next x
      → NumeralStood nums at next x
  unfolding read_numeral
  numeral-stands nums at next x r =
      let b : Both _ _ nums at next x = both keeps-number (reads_here _ r) in
      let n : Number nums at b.mid b.result = reads-number b.first in
      let g : Given (record { at = at; number = b.result }) x b.mid next = reads-pure b.second in
      rw (← g.same) (record {
        stands = record { index = refl; holds = n.holds };
        next_is = omega (arith, n.next_is, g.stays);
      })

  -- and the first of them begins there
  pub record NumeralsStood (nums : List ℕ) (at next : ℕ) (ns : List Numeral) : Type 0 where
    pub stand : StandsNumerals nums at ns
    pub next_is : next ≡ at + length ns
    pub begin : first_at numeral_at ns next ≡ at

  pub numerals-stand : (n : ℕ) (nums : List ℕ) (at next : ℕ) (ns : List Numeral)
      → Reads (repeat n (read_numeral version)) nums at next ns → NumeralsStood nums at next ns
  unfolding StandsNumerals first_at numeral_at
  numerals-stand zero nums at next ns r =
      let g : Given [] ns at next = reads_none (read_numeral version) r in
      rw (← g.same) (record { stand = tt; next_is = omega (arith, g.stays); begin = sym g.stays })
  numerals-stand (suc n) nums at next ns r =
      let t : Head n (read_numeral version) nums at next ns = reads_more (keeps-numeral version) r in
      let p : NumeralStood nums at t.mid t.member = numeral-stands nums at t.mid t.member t.first in
      let s : NumeralsStood nums (at + 1) next t.others
      = numerals-stand n nums (at + 1) next t.others (reads-from p.next_is t.rest) in
      rw t.same (record {
        stand = (p.stands, s.stand);
        next_is = omega (arith, s.next_is);
        begin = p.stands.index;
      })

  -- header types and globals
  pub header-stands : (nums : List ℕ) (at next : ℕ) (h : HeaderTy) → Reads (read_header version) nums at next h
      → StandsHeader nums at h
  unfolding read_header
  header-stands nums at next h r =
      let b : Both _ _ nums at next h = both (keeps-list 1 most_fields (keeps-between 1 widest)) (reads_here _ r) in
      let g : Given (record { at = at; widths = b.result }) h b.mid next = reads-pure b.second in
      let c : Counted 1 most_fields (between 1 widest) nums at b.mid b.result = reads-list b.first in
      rw (← g.same) (record {
        index = refl;
        count = c.holds;
        widths = widths-stand (length b.result) nums (at + 1) b.mid b.result c.members;
      })

  global-means : (nums : List ℕ) (at : ℕ) (x : GlobalTy) → at < length nums
      → global_type_of version (get_or nums at 0) ≡ some x → HoldsGlobalTy nums at x
  unfolding global_type_of or_header header_number HoldsGlobalTy
  global-means nums at x h e = go (type_of version (get_or nums at 0)) refl e
    where
      beyond : (b : Bool) → leb 128 (get_or nums at 0) ≡ b → (d : Bool) → leb (get_or nums at 0) 135 ≡ d
          → or_header version (get_or nums at 0) none ≡ some x → HoldsGlobalTy nums at x
      beyond true p true q f =
          let same : header (get_or nums at 0 - 128) ≡ x = let g : some (header (get_or nums at 0 - 128)) ≡ some x = rw
          (or_header, p, q) at f in cc in
          let low : 128 ≤ get_or nums at 0 = leb-true 128 (get_or nums at 0) p in
          let high : get_or nums at 0 ≤ 135 = leb-true (get_or nums at 0) 135 q in
          rw (← same) (record { inside = h; is = omega (arith, low) }, omega (arith, low, high))
      beyond true p false q f =
          let g : none ≡ some x = rw (or_header, p, q) at f in
          let z : ◌≡◌ {A = ℕ} 0 1 = cc in
          absurd (omega arith)
      beyond false p d q f =
          let g : none ≡ some x = rw (or_header, p) at f in
          let z : ◌≡◌ {A = ℕ} 0 1 = cc in
          absurd (omega arith)

      go : (y : Option Ty) → type_of version (get_or nums at 0) ≡ y → or_header version (get_or nums at 0) y ≡ some x
          → HoldsGlobalTy nums at x
      go (some t) p f =
          let same : variable t ≡ x = cc in
          let m : (get_or nums at 0 ≤ widest) × (ty_of (get_or nums at 0) ≡ t) = type-means version (get_or nums at 0) t p in
          rw (← same) (record { inside = h; most = m.0; is = m.1 })
      go none p f = beyond (leb 128 (get_or nums at 0)) refl (leb (get_or nums at 0) 135) refl f

  pub global-stands : (nums : List ℕ) (at next : ℕ) (x : Global) → Reads (read_global version) nums at next x
      → StandsGlobal nums at x
  unfolding read_global
  global-stands nums at next x r =
      let b : Both _ _ nums at next x = both (keeps-stands _) (reads_here _ r) in
      let m : Meant (global_type_of version) nums at b.mid b.result = reads-stands b.first in
      let g : Given (record { at = at; ty = b.result }) x b.mid next = reads-pure b.second in
      rw (← g.same) (record { index = refl; ty = global-means nums at b.result m.inside m.means })

  -- callables
  kind-is : (n : ℕ) (k : CallableKind) → get_elem? (callable_kinds version) n ≡ some k → n ≡ kind_number k
  unfolding Numbered kind_number
  kind-is n k e = sym (add-zero n) ∙ numbered-at kind_number 0 (callable_kinds version) (refl, (refl, tt)) n k e

  record ReturnsStood (nums : List ℕ) (at next : ℕ) (k : CallableKind) (x : Option Ty) : Type 0 where
    pub kind : kind_number k ≡ callable_kind_number x
    pub holds : HoldsReturns nums at x
    pub next_is : next ≡ at + callable_kind_number x

  returns-stand : (nums : List ℕ) (at next : ℕ) (k : CallableKind) (x : Option Ty)
      → Reads (read_returns version k) nums at next x
      → ReturnsStood nums at next k x
  unfolding read_returns kind_number callable_kind_number HoldsReturns
  returns-stand nums at next kind_action x r =
      let g : Given none x at next = reads-pure r in
      rw (← g.same) (record { kind = refl; holds = tt; next_is = omega (arith, g.stays) })
  returns-stand nums at next kind_function x r =
      let b : Both _ _ nums at next x = both (keeps-stands _) r in
      let m : Meant (type_of version) nums at b.mid b.result = reads-stands b.first in
      let g : Given (some b.result) x b.mid next = reads-pure b.second in
      rw (← g.same) (record { kind = refl; holds = ty-holds version m; next_is = omega (arith, m.next_is, g.stays) })

  types-next : (n : ℕ) (nums : List ℕ) (at next : ℕ) (ts : List Ty)
      → Reads (repeat n (stands_for (type_of version))) nums at next ts → next ≡ at + length ts
  types-next zero nums at next ts r =
      let g : Given [] ts at next = reads_none (stands_for (type_of version)) r in
      rw (← g.same) (omega (arith, g.stays))
  types-next (suc n) nums at next ts r =
      let t : Head n (stands_for (type_of version)) nums at next ts = reads_more (keeps-stands _) r in
      let m : Meant (type_of version) nums at t.mid t.member = reads-stands t.first in
      let s : next ≡ at + 1 + length t.others = types-next n nums (at + 1) next t.others (reads-from
      m.next_is t.rest) in
      rw t.same (omega (arith, s))

  -- from the indices at which its parts were read to those that its tree gives
  callable-parts : (nums ends : List ℕ) (at : ℕ) (returns : Option Ty) (ps : List Parameter) (ls : List Ty)
      (body : Stmt)
      (i j k : ℕ) → Holds nums at (callable_kind_number returns) → HoldsReturns nums (at + 1) returns
      → i ≡ at + 1 + callable_kind_number returns → HoldsWithin 0 most_parameters nums i (length ps)
      → StandsParameters nums (i + 1) ps → j ≡ i + 1 + 2 * length ps → HoldsWithin 0 most_locals nums j (length ls)
      → StandsTypes nums (j + 1) ls → k ≡ j + 1 + length ls → StandsStmt nums ends deepest k body
      → StandsCallable nums ends at (record { at = at; returns = returns; parameters = ps; locals = ls; body = body })
  unfolding parameters_at locals_at body_at
  callable-parts nums ends at returns ps ls body i j k kind holds ei pc p ej lc l ek b = record {
    index = refl;
    kind = kind;
    returns = holds;
    parameter_count = rw (← ei) pc;
    parameters = rw (← ei) p;
    local_count = rw (← ei, ← ej) lc;
    locals = rw (← ei, ← ej) l;
    body = rw (← ei, ← ej, ← ek) b;
  }

  pub callable-stands : (nums ends : List ℕ) (at next : ℕ) (c : Callable) → Reads (read_callable version) nums at next c
      → EndedCallable c next ends → StandsCallable nums ends at c
  unfolding read_callable EndedCallable
  callable-stands nums ends at next c r h =
      let x : Both _ _ nums at next c = both (keeps-stands _) (reads_here _ r) in
      let m : Meant (get_elem? (callable_kinds version)) nums at x.mid x.result = reads-stands x.first in
      let y : Both _ _ nums x.mid next c = both (keeps-returns version x.result) x.second in
      let t : ReturnsStood nums (at + 1) y.mid x.result y.result
      = returns-stand nums (at + 1) y.mid x.result y.result (reads-from m.next_is y.first) in
      let z : Both _ _ nums y.mid next c = both (keeps-list 0 most_parameters (keeps-parameter version))
      y.second in
      let p : Counted 0 most_parameters (read_parameter version) nums y.mid z.mid z.result = reads-list
      z.first in
      let ps : ParametersStood nums (y.mid + 1) z.mid z.result
      = parameters-stand (length z.result) nums (y.mid + 1) z.mid z.result p.members in
      let w : Both _ _ nums z.mid next c = both (keeps-list 0 most_locals (keeps-stands _)) z.second in
      let l : Counted 0 most_locals (stands_for (type_of version)) nums z.mid w.mid w.result = reads-list
      w.first in
      let v : Both _ _ nums w.mid next c = both (keeps-stmt version deepest) w.second in
      let g : Given (record {
        at = at;
        returns = y.result;
        parameters = z.result;
        locals = w.result;
        body = v.result;
      }) c v.mid next = reads-pure v.second in
      rw (← g.same) (callable-parts nums ends at y.result z.result w.result v.result y.mid z.mid
      w.mid
      (record { inside = m.inside; is = kind-is (get_or nums at 0) x.result m.means ∙ t.kind })
      t.holds t.next_is p.holds ps.stand ps.next_is l.holds
      (types-stand (length w.result) nums (z.mid + 1) w.mid w.result l.members)
      (types-next (length w.result) nums (z.mid + 1) w.mid w.result l.members)
      (stmt-stands version nums ends deepest w.mid next v.result (reads-to g.stays v.first)
      (rw (← g.same) at h)))
