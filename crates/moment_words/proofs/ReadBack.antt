-- The text of a moment says that moment.
use Rattle.std.proofs.Common.{◌≡◌, ◌≢◌, ◌<◌, ◌≤◌, ◌*◌, ◌/◌, ◌%◌, ◌^◌, ◌==◌, ℕ, true, false, List, [], ◌∷◌, ◌++◌, Some, Ok, pos, ◌-ℤ◌, min, get_or, take_at, drop_at, inl, inr, refl, sym, ap, ◌∙◌, subst, arith}
use Rattle.std.proofs.lemmas.Bool.Decides.{nat_tests}
use Rattle.std.proofs.lemmas.Fmt.{decimal_is_IsNumeral}
use Rattle.std.proofs.lemmas.List.{append_assoc}
use Rattle.std.proofs.lemmas.Str.Parse.{without_leading_plus_none}
use Rattle.std.specs.Char.{is_ascii_digit}
use Rattle.std.specs.Fmt.{decimal}
use Rattle.std.specs.List.{prefix_len}
use Rattle.std.specs.Str.Parse.{IsNumeral, without_leading_plus}
use Rattle.jiff_core.specs.DateTime.{civil_nanos}
use Rattle.jiff_core.specs.Timestamp.{nanos_of_seconds}
use Rattle.jiff_core.specs.declared.civil.datetime.DateTime.{DateTime}
use Rattle.jiff_core.specs.declared.civil.time.Time.{Time}
use Rattle.jiff_core.specs.declared.error.Bound.TheVariants as Bd
use Rattle.jiff_core.specs.declared.error.Syntax.TheVariants as Syntax
use Rattle.jiff_core.specs.declared.timestamp.Timestamp.{Timestamp}
use Rattle.jiff_core.proofs.SignedLemmas.{signed_arith}
use Rattle.jiff_fmt.specs.Reader.{fraction_value, nanoseconds, temporal_fraction}
use Rattle.jiff_fmt.specs.Temporal as spec
use Rattle.jiff_fmt.specs.Temporal.{date_parts, date_spec, parse_timestamp, temporal_datetime, time_parts, time_spec}
use Rattle.jiff_fmt.specs.Text.{date_text, datetime_text, pad2, places, time_text, zulu_text}
use Rattle.jiff_fmt.proofs.RoundTrip.{Stops, annotations-empty, date_spec-text, field-pad2, offset-zulu}
use Rattle.jiff_fmt.proofs.TemporalLemmas.{instant-ok}
use Rattle.jiff_fmt.proofs.TextLemmas.{places-read}
use Rattle.moment_words.specs.Printed.{IsPrinted}
use Rattle.moment_words.specs.Texts as texts
use Rattle.moment_words.specs.Words.{IsNo, IsNumber, SaysMoment, microsecond_in}
use Rattle.moment_words.proofs.Dates.{day_and_time, same_date}

stops-digit : (rest : List ℕ) → Stops rest → prefix_len is_ascii_digit rest ≡ 0
stops-digit [] s = refl
stops-digit (c ∷ rest) s =
    let not_digit : is_ascii_digit c ≡ false = grind (arith, nat_tests, s) in
    rw not_digit

-- six places of a fraction that is whole microseconds
six_places : (n : ℕ) (rest : List ℕ) → n < 1_000_000_000 → n % 1_000 ≡ 0 → Stops rest → nanoseconds (places 6 1_000_000_000 n ++ rest) ≡ Ok (n, rest)
unfolding nanoseconds
six_places n rest high whole s =
    let facts = places-read 6 9 n rest (omega arith) high in
    let count : min (prefix_len is_ascii_digit (places 6 1_000_000_000 n ++ rest)) 9 ≡ 6 = omega (arith, facts.0, stops-digit rest s) in
    let value : fraction_value 9 (places 6 1_000_000_000 n) ≡ n = omega (arith, facts.2, whole) in
    rw (count, take_at (places 6 1_000_000_000 n) rest 6 facts.1, drop_at (places 6 1_000_000_000 n) rest 6 facts.1, value)

-- a time with six places
time_read : (t : Time) (rest : List ℕ) → t.subsec_nanosecond % 1_000 ≡ 0 → Stops rest → time_spec (time_text (Some 6) t ++ rest) ≡ Ok ((time_parts t, true), rest)
unfolding time_spec temporal_fraction
time_read t rest whole s =
    let fraction_text = 46 ∷ places 6 1_000_000_000 t.subsec_nanosecond ++ rest in
    let after_minute = 58 ∷ pad2 t.second ++ fraction_text in
    let after_hour = 58 ∷ pad2 t.minute ++ after_minute in
    let shape : time_text (Some 6) t ++ rest ≡ pad2 t.hour ++ after_hour = simp append_assoc refl in
    let hour = field-pad2 Syntax.Hour 0 23 Bd.Hour t.hour after_hour (omega arith) (omega (arith, t.hour_in)) (omega (arith, t.hour_in)) in
    let minute = field-pad2 Syntax.Minute 0 59 Bd.Minute t.minute after_minute (omega arith) (omega (arith, t.minute_in)) (omega (arith, t.minute_in)) in
    let second = field-pad2 Syntax.Second 0 60 Bd.LeapSecond t.second fraction_text (omega arith) (omega (arith, t.second_in)) (omega (arith, t.second_in)) in
    let no_leap : (t.second == 60) ≡ false = grind (arith, nat_tests, t.second_in) in
    rw (shape, hour, minute, second, no_leap, six_places t.subsec_nanosecond rest t.subsec_in whole s)

-- what is printed of an instant reads as the instant
instant_read : (dt : DateTime) (t : Timestamp) → civil_nanos dt ≡ t.nanosecond → dt.time.subsec_nanosecond % 1_000 ≡ 0
    → parse_timestamp (datetime_text false 84 (Some 6) dt ++ zulu_text false) ≡ Ok t.nanosecond
unfolding temporal_datetime civil_nanos
instant_read dt t e whole =
    let stop : Stops (90 ∷ []) = refl in
    let shape : datetime_text false 84 (Some 6) dt ++ 90 ∷ [] ≡ date_text dt.date ++ (84 ∷ time_text (Some 6) dt.time ++ 90 ∷ []) = append_assoc (date_text dt.date) (84 ∷ time_text (Some 6) dt.time) (90 ∷ []) in
    let read : date_spec (datetime_text false 84 (Some 6) dt ++ 90 ∷ []) ≡ Ok (date_parts dt.date, 84 ∷ time_text (Some 6) dt.time ++ 90 ∷ []) =
    rw shape (date_spec-text dt.date (84 ∷ time_text (Some 6) dt.time ++ 90 ∷ [])) in
    let clock = time_read dt.time (90 ∷ []) whole stop in
    let value : spec.parts_nanos (date_parts dt.date) (time_parts dt.time) -ℤ nanos_of_seconds (pos 0) ≡ t.nanosecond = omega (arith, signed_arith, e) in
    rw (read, clock, offset-zulu, annotations-empty, value, instant-ok t.nanosecond t.in_range)

-- a numeral has no sign
no_sign : (ds : List ℕ) → IsNumeral 10 ds → get_or ds 0 0 ≢ 43
no_sign [] h e = absurd (omega (arith, h.0))
no_sign (c ∷ cs) h e = let bad : 36 < 10 = rw e at h.1.0 in absurd (omega (arith, bad))

-- a number is read as itself
pub number_read : (n : ℕ) → n < 2 ^ 64 → IsNumber (decimal n) n
number_read n low =
    let numeral = decimal_is_IsNumeral n low in
    let plain = without_leading_plus_none (decimal n) (no_sign (decimal n) numeral.0) in
    rw plain ((numeral.0, omega (arith, numeral.1)), sym numeral.1)

-- a date is no number
date_is_no_number : (moment : ℕ) → IsNo (IsNumber (texts.date_text moment))
date_is_no_number moment n h =
    let plain : without_leading_plus (texts.date_text moment) ≡ texts.date_text moment = without_leading_plus_none (texts.date_text moment) (λ e. omega (arith, e)) in
    let numeral : IsNumeral 10 (texts.date_text moment) = subst (λ (ds : List ℕ). IsNumeral 10 ds) plain h.0.0 in
    let dash : 36 < 10 = numeral.1.1.1.1.1.0 in
    omega (arith, dash)

-- what is printed of the instant of a moment says the moment
pub date_read : (instant : Timestamp) (moment : ℕ) (text : List ℕ) → instant.nanosecond ≡ pos (moment * 1_000) → moment ≤ 253_402_207_200_999_999
    → IsPrinted instant text → SaysMoment text moment
date_read instant moment text is low p =
    let dt = p.0 in
    let whole : dt.time.subsec_nanosecond % 1_000 ≡ 0 = omega (arith, (day_and_time dt moment (p.1 ∙ is)).1) in
    let read : parse_timestamp text ≡ Ok (pos (moment * 1_000)) = ap parse_timestamp p.2 ∙ instant_read dt instant p.1 whole ∙ ap (λ n. Ok n) is in
    let back : moment * 1_000 / 1_000 ≡ moment = omega arith in
    λ now. inr (
      (λ n h. date_is_no_number moment n (subst (λ (t : List ℕ). IsNumber t n) (same_date instant moment text is low p) h)),
      inl (ap microsecond_in read ∙ ap (λ n. Some n) back),
    )
