-- From reading to standing: keys and tables.
use mathlib.Core.Option.{some}
use mathlib.Core.Path.{◌≡◌, refl, sym, subst, ◌∙◌}
use mathlib.Core.List.{List, [], ◌∷◌}
use Prim.Native.Nat.{ℕ, zero, suc, ◌+◌, ◌-◌}
use native.Mathlib.Omega.{arith}
use native.Mathlib.Nat.{add-zero}
use lib.ListN.{length, get_or, get_elem?}
use Rattle.rules.specs.Syntax.{KeyKind, Numeral, Key, Table}
use Rattle.rules.specs.Reading.{repeat, deepest, most_keys, most_actions, most_arguments, key_kinds, read_numeral, read_key, read_table}
use Rattle.rules.proofs.Readers.{keeps-stands, keeps-list, keeps-expr, keeps-numeral, keeps-key}
use Rattle.shape.specs.Ends.{first_at, key_at, numeral_at, EndedExpr, EndedAll, EndedKey, EndedTable}
use Rattle.program.specs.Codes.{key_kind_number}
use Rattle.program.specs.Stands.{Holds, HoldsWithin, StandsExpr, StandsNumeral, StandsNumerals, StandsKeys, keys_end, actions_at, default_at, StandsTable}
use Rattle.program.proofs.Readings.{Reads, reads-to, reads-from, Both, both, Given, reads-pure, reads_here, Meant, reads-stands, Counted, reads-list, reads_none, Head, reads_more}
use Rattle.program.proofs.ExprsStand.{Numbered, numbered-at, expr-end, expr-stands}
use Rattle.program.proofs.PartsStand.{NumeralStood, numeral-stands, NumeralsStood, numerals-stand}

module _ (version : ℕ) where
  key-kind-is : (n : ℕ) (k : KeyKind) → get_elem? (key_kinds version) n ≡ some k → n ≡ key_kind_number k
  unfolding Numbered key_kind_number
  key-kind-is n k e =
      sym (add-zero n) ∙ numbered-at key_kind_number 0 (key_kinds version) (refl, (refl, (refl, tt))) n k e

  record KeyStood (nums ends : List ℕ) (at next : ℕ) (k : Key) : Type 0 where
    pub index : k.at ≡ at
    pub kind : Holds nums at (key_kind_number k.kind)
    pub expr : StandsExpr nums ends deepest (at + 1) k.expr
    pub end : get_or ends (at + 1) 0 ≡ next

  key-stands : (nums ends : List ℕ) (at next : ℕ) (k : Key) → Reads (read_key version) nums at next k
      → EndedKey k next ends → KeyStood nums ends at next k
  unfolding read_key EndedKey
  key-stands nums ends at next k r h =
      let b : Both _ _ nums at next k = both (keeps-stands _) (reads_here _ r) in
      let m : Meant (get_elem? (key_kinds version)) nums at b.mid b.result = reads-stands b.first in
      let c : Both _ _ nums b.mid next k = both (keeps-expr version deepest) b.second in
      let g : Given (record { at = at; kind = b.result; expr = c.result }) k c.mid next = reads-pure c.second in
      let f : EndedExpr c.result next ends = rw (← g.same) at h in
      let s : StandsExpr nums ends deepest (at + 1) c.result
      = expr-stands version nums ends deepest (at + 1) next c.result
      (reads-to g.stays (reads-from m.next_is c.first)) f in
      rw (← g.same) (record {
        index = refl;
        kind = record { inside = m.inside; is = key-kind-is (get_or nums at 0) b.result m.means };
        expr = s;
        end = expr-end c.result next s f;
      })

  record KeysStood (nums ends : List ℕ) (at next : ℕ) (ks : List Key) : Type 0 where
    pub stand : StandsKeys nums ends at ks
    pub end : keys_end ends at (length ks) ≡ next
    pub begin : first_at key_at ks next ≡ at

  keys_step : (ends : List ℕ) (at mid next n : ℕ) → get_or ends (at + 1) 0 ≡ mid → keys_end ends mid n ≡ next
      → keys_end ends at (suc n) ≡ next
  unfolding keys_end
  keys_step ends at mid next n e f = subst (λ m. keys_end ends m n ≡ next) (sym e) f

  keys-more : (nums ends : List ℕ) (at mid next : ℕ) (k : Key) (ks : List Key) → Reads (read_key version) nums at mid k
      → EndedKey k (first_at key_at ks next) ends → KeysStood nums ends mid next ks → KeysStood nums ends at next (k ∷ ks)
  unfolding StandsKeys keys_end first_at key_at
  keys-more nums ends at mid next k ks r h others =
      let s : KeyStood nums ends at mid k = key-stands nums ends at mid k r (rw others.begin at h) in
      record {
        stand = (s.index, (s.kind, (s.expr, rw s.end others.stand)));
        end = keys_step ends at mid next (length ks) s.end others.end;
        begin = s.index;
      }

  keys-stand : (n : ℕ) (nums ends : List ℕ) (at next : ℕ) (ks : List Key)
      → Reads (repeat n (read_key version)) nums at next ks
      → EndedAll key_at EndedKey ks next ends → KeysStood nums ends at next ks
  unfolding StandsKeys keys_end first_at EndedAll
  keys-stand zero nums ends at next ks r h =
      let g : Given [] ks at next = reads_none (read_key version) r in
      rw (← g.same) (record { stand = tt; end = g.stays; begin = sym g.stays })
  keys-stand (suc n) nums ends at next ks r h =
      let t : Head n (read_key version) nums at next ks = reads_more (keeps-key version) r in
      let k : EndedAll key_at EndedKey (t.member ∷ t.others) next ends = rw t.same at h in
      rw t.same (keys-more nums ends at t.mid next t.member t.others t.first k.0
      (keys-stand n nums ends t.mid next t.others t.rest k.1))

  -- from the indices at which its parts were read to those that its tree gives
  table-parts : (nums ends : List ℕ) (at : ℕ) (ks : List Key) (cs : List Numeral) (d : Numeral) (count_at : ℕ)
      (xs : List Numeral) (i j : ℕ)
      → HoldsWithin 1 most_keys nums at (length ks) → StandsKeys nums ends (at + 1) ks
      → keys_end ends (at + 1) (length ks) ≡ i → HoldsWithin 1 most_actions nums i (length cs)
      → StandsNumerals nums (i + 1) cs → j ≡ i + 1 + length cs → StandsNumeral nums j d → count_at ≡ j + 1
      → HoldsWithin 0 most_arguments nums count_at (length xs) → StandsNumerals nums (count_at + 1) xs
      → StandsTable nums ends at (record {
        at = at;
        keys = ks;
        actions = cs;
        default = d;
        count_at = count_at;
        arguments = xs;
      })
  unfolding actions_at default_at
  table-parts nums ends at ks cs d count_at xs i j kc k ei ac a ej sd ec xc x =
      let e : count_at + 1 ≡ j + 2 = omega (arith, ec) in
      record {
        index = refl;
        key_count = kc;
        keys = k;
        action_count = rw ei ac;
        actions = rw ei a;
        default = rw (ei, ← ej) sd;
        count_index = rw (ei, ← ej) ec;
        argument_count = rw (ei, ← ej, ← ec) xc;
        arguments = rw (ei, ← ej, ← e) x;
      }

  pub table-stands : (nums ends : List ℕ) (at next : ℕ) (T : Table) → Reads (read_table version) nums at next T
      → EndedTable T next ends → StandsTable nums ends at T
  unfolding read_table EndedTable
  table-stands nums ends at next T r h =
      let x : Both _ _ nums at next T = both (keeps-list 1 most_keys (keeps-key version)) (reads_here _ r) in
      let kc : Counted 1 most_keys (read_key version) nums at x.mid x.result = reads-list x.first in
      let y : Both _ _ nums x.mid next T = both (keeps-list 1 most_actions (keeps-numeral version)) x.second in
      let ac : Counted 1 most_actions (read_numeral version) nums x.mid y.mid y.result = reads-list y.first in
      let cs : NumeralsStood version nums (x.mid + 1) y.mid y.result
      = numerals-stand version (length y.result) nums (x.mid + 1) y.mid y.result ac.members in
      let z : Both _ _ nums y.mid next T = both (keeps-numeral version) y.second in
      let d : NumeralStood version nums y.mid z.mid z.result
      = numeral-stands version nums y.mid z.mid z.result z.first in
      let w : Both _ _ nums z.mid next T = both (keeps-list 0 most_arguments (keeps-numeral version))
      (reads_here _ z.second) in
      let xc : Counted 0 most_arguments (read_numeral version) nums z.mid w.mid w.result = reads-list
      w.first in
      let g : Given (record {
        at = at;
        keys = x.result;
        actions = y.result;
        default = z.result;
        count_at = z.mid;
        arguments = w.result;
      }) T w.mid next = reads-pure w.second in
      let f : EndedAll key_at EndedKey x.result (first_at numeral_at y.result z.result.at - 1) ends
      = rw (← g.same) at h in
      let first : first_at numeral_at y.result z.result.at ≡ x.mid + 1 = rw d.stands.index cs.begin in
      let before : first_at numeral_at y.result z.result.at - 1 ≡ x.mid = omega (arith, first) in
      let ks : KeysStood nums ends (at + 1) x.mid x.result
      = keys-stand (length x.result) nums ends (at + 1) x.mid x.result kc.members (rw before at f) in
      rw (← g.same) (table-parts nums ends at x.result y.result z.result z.mid w.result x.mid
      y.mid
      kc.holds ks.stand ks.end ac.holds cs.stand cs.next_is d.stands d.next_is xc.holds
      (numerals-stand version (length w.result) nums (z.mid + 1) w.mid w.result xc.members).stand)
