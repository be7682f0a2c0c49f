-- A reply is read exactly where the body encodes it.
use Rattle.std.proofs.Common.{◌≡◌, ◌≢◌, ℕ, ◌≤◌, List, [], ◌∷◌, ◌++◌, length, Some, refl, sym, ap, ◌∙◌}
use Rattle.std.proofs.lemmas.Bool.{eqb-true}
use Rattle.s4_types.specs.RefusalNumber.{number_of}
use Rattle.s4_types.specs.declared.limits.TheConstants.{READ_BYTES, ATTRIBUTE_BYTES, AUDIT_ROWS}
use Rattle.s4_types.specs.declared.refusals.Refusal.{Refusal as Reason}
use Rattle.s4_types.specs.declared.replies.Reply.{Reply}
use Rattle.s4_types.specs.declared.replies.Reply.TheVariants.{Refused, Changed, Created, Data, Attr, AuditRows}
use Rattle.std.specs.List.{AllByRecursion, flat_map}
use Rattle.s4_types.specs.declared.audit_rows.AuditRow.{AuditRow}
use Rattle.lemmas.proofs.Bytes.{IsBytes}
use Rattle.rpc.specs.Spelling.{long, word, wire_text, row_spelling, RowNumbers, SpellsReply}
use Rattle.rpc.specs.private.Reading.{◌>>=◌, ended_at, refusal_of_code, refused_at, changed_at, created_at, data_at, attr_at, rows_at, audit_rows_at, wire_reply_at}
use Rattle.rpc.proofs.Refusals.{refusal_found, refusal_again}
use Rattle.rpc.proofs.Exact.{bytes_behind, bind_some, ended_nil, ended_end, Exact, Then, Last, then_exact, last_exact, tail_exact, word_field, long_field, text_field}
use Rattle.rpc.proofs.RowLaws.{rows_found, rows_again}
use Rattle.rpc.proofs.RequestLaws.{kind_or_other, IsLong, IsWord}

-- ---- each kind, field by field

changed_exact : Exact changed_at (Last long IsLong Changed)
unfolding changed_at
changed_exact = last_exact long_field Changed

created_exact : Exact created_at (Then long IsLong (λ object. Last long IsLong (Created object)))
unfolding created_at
created_exact = then_exact long_field (λ object. last_exact long_field (Created object))

data_exact : Exact data_at (Last (λ b. b) (λ b. length b ≤ READ_BYTES) Data)
unfolding data_at
data_exact = tail_exact READ_BYTES Data

attr_exact : Exact attr_at (Then word IsWord (λ size. Then long IsLong (λ created. Then long IsLong (λ changed. Last wire_text (λ b. length b ≤ ATTRIBUTE_BYTES) (Attr size created changed)))))
unfolding attr_at
attr_exact = then_exact word_field (λ size. then_exact long_field (λ created. then_exact long_field (λ changed. last_exact (text_field ATTRIBUTE_BYTES) (Attr size created changed))))

-- ---- a reply that was read is encoded

refused_found : (rest : List ℕ) (r : Reply) → refused_at rest ≡ Some r → SpellsReply (0 ∷ rest) r
unfolding refused_at
refused_found [] r e = absurd cc
refused_found (number ∷ rest) r e =
    let b = bind_some (ended_at rest) (λ _. refusal_of_code number >>= λ refusal. Some (Refused refusal)) r e in
    let c = bind_some (refusal_of_code number) (λ refusal. Some (Refused refusal)) r b.2 in
    let nothing : rest ≡ [] = ended_nil rest b.0 b.1 in
    let is : r ≡ Refused c.0 = cc in
    let named = refusal_found number c.0 c.1 in
    let has : number_of c.0 ≡ number = named.0 in
    rw is (((λ same. named.1 (sym has ∙ same)), tt), cc)

module _ (rest : List ℕ) (r : Reply) (h : IsBytes rest) where
  changed_found : changed_at rest ≡ Some r → SpellsReply (1 ∷ rest) r
  changed_found e = let s = changed_exact.found rest r h e in rw s.is ((tt, s.fits), cc)

  created_found : created_at rest ≡ Some r → SpellsReply (2 ∷ rest) r
  created_found e = let s = created_exact.found rest r h e in rw s.after.is ((tt, (s.fits, s.after.fits)), cc)

  data_found : data_at rest ≡ Some r → SpellsReply (3 ∷ rest) r
  data_found e = let s = data_exact.found rest r h e in rw s.is ((s.fits, tt), cc)

  attr_found : attr_at rest ≡ Some r → SpellsReply (4 ∷ rest) r
  attr_found e =
      let s = attr_exact.found rest r h e in
      let last = s.after.after.after in
      rw last.is ((last.fits, (s.fits, s.after.fits, s.after.after.fits)), cc)

  audit_rows_found : audit_rows_at rest ≡ Some r → SpellsReply (5 ∷ rest) r
  unfolding audit_rows_at
  audit_rows_found e =
      let b = bind_some (rows_at AUDIT_ROWS rest) (λ rows. Some (AuditRows rows)) r e in
      let s = rows_found AUDIT_ROWS rest b.0 h b.1 in
      let is : r ≡ AuditRows b.0 = cc in
      rw is ((s.few, s.numbers), ap (λ (x : List ℕ). 5 ∷ x) s.whole)

reply_found : (bytes : List ℕ) (r : Reply) → IsBytes bytes → wire_reply_at bytes ≡ Some r → SpellsReply bytes r
unfolding wire_reply_at
reply_found [] r h e = absurd cc
reply_found (kind ∷ rest) r h e =
    let behind = bytes_behind kind rest h in
    kind_or_other _ _ _ r e (λ t d. rw (eqb-true kind 0 t) (refused_found rest r d)) (λ e.
    kind_or_other _ _ _ r e (λ t d. rw (eqb-true kind 1 t) (changed_found rest r behind d)) (λ e.
    kind_or_other _ _ _ r e (λ t d. rw (eqb-true kind 2 t) (created_found rest r behind d)) (λ e.
    kind_or_other _ _ _ r e (λ t d. rw (eqb-true kind 3 t) (data_found rest r behind d)) (λ e.
    kind_or_other _ _ _ r e (λ t d. rw (eqb-true kind 4 t) (attr_found rest r behind d)) (λ e.
    kind_or_other _ _ _ r e (λ t d. rw (eqb-true kind 5 t) (audit_rows_found rest r behind d)) (λ e. absurd cc))))))

refused_again : (refusal : Reason) → number_of refusal ≢ 16 → refused_at (number_of refusal ∷ []) ≡ Some (Refused refusal)
unfolding refused_at
refused_again refusal named = rw (ended_end, refusal_again (number_of refusal) refusal (refl, named)) refl

audit_rows_again : (rows : List AuditRow) → length rows ≤ AUDIT_ROWS → AllByRecursion RowNumbers rows → audit_rows_at (flat_map row_spelling rows) ≡ Some (AuditRows rows)
unfolding audit_rows_at
audit_rows_again rows few numbers = rw (rows_again AUDIT_ROWS rows few numbers) refl

reply_again : (bytes : List ℕ) (r : Reply) → SpellsReply bytes r → wire_reply_at bytes ≡ Some r
unfolding wire_reply_at
reply_again bytes (Refused refusal) s = rw s.1 (refused_again refusal s.0.0)
reply_again bytes (Changed moment) s = rw s.1 (changed_exact.again _ _ (record { value = moment; fits = s.0.1; whole = refl; is = refl }))
reply_again bytes (Created object moment) s = rw s.1 (created_exact.again _ _ (record {
  value = object;
  rest = long moment;
  fits = s.0.1.0;
  whole = refl;
  after = record { value = moment; fits = s.0.1.1; whole = refl; is = refl };
}))
reply_again bytes (Data found) s = rw s.1 (data_exact.again _ _ (record { value = found; fits = s.0.0; whole = refl; is = refl }))
reply_again bytes (Attr size created changed attribute) s = rw s.1 (attr_exact.again _ _ (record {
  value = size;
  rest = long created ++ (long changed ++ wire_text attribute);
  fits = s.0.1.0;
  whole = refl;
  after = record {
    value = created;
    rest = long changed ++ wire_text attribute;
    fits = s.0.1.1;
    whole = refl;
    after = record {
      value = changed;
      rest = wire_text attribute;
      fits = s.0.1.2;
      whole = refl;
      after = record { value = attribute; fits = s.0.0; whole = refl; is = refl };
    };
  };
}))
reply_again bytes (AuditRows rows) s = rw s.1 (audit_rows_again rows s.0.0 s.0.1)

pub reply_exact : Exact wire_reply_at SpellsReply
reply_exact = record { found = reply_found; again = reply_again }
