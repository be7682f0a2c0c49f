use Rattle.std.proofs.Common.{◌≡◌, ◌⊎◌, inl, inr, ℕ, ◌^◌, ◌<◌, List, refl, length, take, arith, sym, subst, ap, ◌∙◌}
use Rattle.update_log.specs.declared.places.Place.{Place}
use Rattle.update_log.specs.Logs.{Begins}
use Rattle.update_log.specs.Records.{record_bytes}
use Rattle.update_log.specs.Sectors.{size_of}
use Rattle.update_log.proofs.Choices.{if_false, if_true}
use Rattle.update_log.proofs.Following.{found_begins, length_read, limit_read, no_length_found, no_limit_found, made_entry, none_found}
use Rattle.update_log.proofs.accepting.whole_record.Goals as goal
use Rattle.update_log.proofs.accepting.whole_record.Goals.{then-limit-place-via-then-limit-place, then-limit-place-via-else-limit-place+then-limit-place-2}
use Rattle.update_log.proofs.accepting.whole_record.Goals.{then-length-gt-LARGEST_PAYLOAD-via-then-length-gt-LARGEST_PAYLOAD, then-length-gt-LARGEST_PAYLOAD-via-else-length-gt-LARGEST_PAYLOAD+then-size_of_record-tail}

pub returns-then-limit-place-clause-none : goal.returns-then-limit-place-clause-none
returns-then-limit-place-clause-none c =
    let few : length c.args.bytes.now < 2 ^ 64 = omega (arith, c.split_at.type_inv.1.1, c.split_at.ensures.front_len, c.split_at.ensures.back_len) in
    let bad : (c.long_at-limit.result < c.args.place.now.limit) ⊎ (length c.args.bytes.now < c.long_at-limit.result) = elim c.then-limit-place.branch [
      | then-limit-place-via-then-limit-place w ↦ inl (omega (arith, w.if-limit-place.true))
      | then-limit-place-via-else-limit-place+then-limit-place-2 w ↦ inr (omega (arith, w.if-limit-place-2.true, c.split_at.ensures.back_len))
    ] in
    inr (refl, no_limit_found c.args.place.now c.args.bytes.now c.args.tail.now c.long_at-limit.result c.requires.tail (limit_read c.args.tail.now _ c.long_at-limit.ensures) few bad)

pub returns-then-length-gt-LARGEST_PAYLOAD-clause-none : goal.returns-then-length-gt-LARGEST_PAYLOAD-clause-none
returns-then-length-gt-LARGEST_PAYLOAD-clause-none c =
    let few : length c.args.bytes.now < 2 ^ 64 = omega (arith, c.split_at.type_inv.1.1, c.split_at.ensures.front_len, c.split_at.ensures.back_len) in
    let bad : (2 ^ 24 < c.word_at-length.result) ⊎ (length c.args.tail.now < size_of c.word_at-length.result) = elim c.then-length-gt-LARGEST_PAYLOAD.branch [
      | then-length-gt-LARGEST_PAYLOAD-via-then-length-gt-LARGEST_PAYLOAD w ↦ inl (omega (arith, w.if-length-gt-LARGEST_PAYLOAD.true))
      | then-length-gt-LARGEST_PAYLOAD-via-else-length-gt-LARGEST_PAYLOAD+then-size_of_record-tail w ↦ inr (omega (arith, w.if-size_of_record-tail.true, w.size_of_record.ensures))
    ] in
    inr (refl, no_length_found c.args.place.now c.args.bytes.now c.args.tail.now c.word_at-length.result c.requires.tail (length_read c.args.tail.now _ c.word_at-length.ensures) few bad)

pub payload_of-requires-clause-bytes : goal.payload_of-requires-clause-bytes
payload_of-requires-clause-bytes c = length_read c.args.tail.now _ c.word_at-length.ensures

pub returns-then-not-is_same-clause-none : goal.returns-then-not-is_same-clause-none
returns-then-not-is_same-clause-none c =
    let few : length c.args.bytes.now < 2 ^ 64 = omega (arith, c.split_at.type_inv.1.1, c.split_at.ensures.front_len, c.split_at.ensures.back_len) in
    let differs = if_false c.is_same.result _ _ c.is_same.ensures c.if-not-is_same.true in
    inr (
      refl,
      none_found c.args.place.now c.args.bytes.now c.args.tail.now c.in_ok-record.record.items c.in_ok-payload.payload.items c.long_at-limit.result c.requires.tail (limit_read c.args.tail.now _ c.long_at-limit.ensures)
          c.in_ok-payload.ensures.payload (subst (λ (x : List ℕ). c.in_ok-record.record.items ≡ record_bytes c.args.place.now (made_entry c.long_at-limit.result x)) c.deref.ensures.value c.in_ok-record.ensures.bytes) few
          (λ same. differs (c.front.ensures ∙ ap (λ (n : ℕ). take n c.args.tail.now) (c.len.ensures ∙ c.in_ok-record.record.ok.0) ∙ same ∙ sym c.deref-2.ensures.value)),
    )

pub returns-clause-record : goal.returns-clause-record
returns-clause-record c =
    let p = c.args.place.now in
    let r = c.in_ok-record.record.items in
    let payload = c.in_ok-payload.payload.items in
    let limit = c.long_at-limit.result in
    let same = if_true c.is_same.result _ _ c.is_same.ensures c.if-not-is_same.false in
    let is : r ≡ record_bytes p (made_entry limit payload) = subst (λ (x : List ℕ). r ≡ record_bytes p (made_entry limit x)) c.deref.ensures.value c.in_ok-record.ensures.bytes in
    let front : take (length r) c.args.tail.now ≡ r = ap (λ (n : ℕ). take n c.args.tail.now) (sym (c.len.ensures ∙ c.in_ok-record.record.ok.0)) ∙ sym c.front.ensures ∙ same ∙ c.deref-2.ensures.value in
    let goes : limit ≡ c.in_ok-record.next.limit = sym (ap (λ (q : Place). q.limit) c.in_ok-record.ensures.after) in
    subst (λ (n : ℕ). Begins p (made_entry n payload) c.args.bytes.now) goes
    (found_begins p (made_entry limit payload) c.args.bytes.now c.args.tail.now r c.requires.tail is front c.requires.at c.requires.limit c.if-limit-place.false
    (omega (arith, c.if-limit-place-2.false, c.split_at.ensures.back_len)) (omega (arith, c.in_ok-payload.ensures.few, c.if-length-gt-LARGEST_PAYLOAD.false)))
