-- The date and the clock of a moment are those that jiff shows.
use Rattle.std.proofs.Common.{◌≡◌, ◌<◌, ◌≤◌, ◌+◌, ◌-◌, ◌*◌, ◌/◌, ◌%◌, ℕ, zero, suc, Bool, true, false, List, ◌++◌, ◌∷◌, [], Some, nat_le, nat_lt, if◌then◌else◌, pos, refl, sym, ap, ◌∙◌, subst, arith}
use Rattle.std.proofs.lemmas.Bool.Decides.{nat_tests}
use Rattle.jiff_core.specs.Calendar.{day_count, days_in_month, days_in_year}
use Rattle.jiff_core.specs.Date.{epoch_day}
use Rattle.jiff_core.specs.DateTime.{civil_nanos}
use Rattle.jiff_core.specs.Time.{time_nanos}
use Rattle.jiff_core.specs.declared.civil.date.Date.{Date}
use Rattle.jiff_core.specs.declared.civil.datetime.DateTime.{DateTime}
use Rattle.jiff_core.specs.declared.civil.time.Time.{Time}
use Rattle.jiff_core.specs.declared.timestamp.Timestamp.{Timestamp}
use Rattle.jiff_core.proofs.CalendarLemmas.{day_count-day, day_count-end, day_count-last_of_year, day_count-next_month, day_count-next_year, days_from_civil-day_count, day_count-epoch}
use Rattle.jiff_core.proofs.DateLemmas.{epoch_day_injective}
use Rattle.jiff_core.proofs.DateTimeLemmas.{civil_nanos-parts, time_nanos_bound}
use Rattle.jiff_core.proofs.SignedLemmas.{signed_arith}
use Rattle.jiff_fmt.specs.Text as printed
use Rattle.jiff_fmt.specs.Text.{pad2, pad4, fraction_part}
use Rattle.moment_words.specs.Printed.{IsPrinted}
use Rattle.moment_words.specs.Texts.{clock_text, date_text, dated_text, day_text, last_dated, month_from, month_of, year_from, year_of}

-- the year, and the day in it from 0, of the day before which there are this many
abbrev pub IsYearOf : ℕ → ℕ × ℕ → Type 0
IsYearOf count r = (day_count (pos r.0) 1 1 + r.1 ≡ count) × (r.1 < days_in_year (pos r.0)) × (r.0 ≤ 9999)

-- the same of the month of a year, and the day in it from 1
abbrev pub IsMonthOf : ℕ → ℕ → ℕ × ℕ → Type 0
IsMonthOf y count r = (day_count (pos y) r.0 r.1 ≡ count) × (1 ≤ r.0) × (r.0 ≤ 12) × (1 ≤ r.1) × (r.1 ≤ days_in_month (pos y) r.0)

last_year : day_count (pos 10000) 1 1 ≡ day_count (pos 9999) 1 1 + days_in_year (pos 9999)
last_year = day_count-next_year (pos 9999) (pos 10000) (omega (arith, signed_arith)) refl

year_step : (k y day : ℕ) (b : Bool) → nat_lt day (days_in_year (pos y)) ≡ b → y + suc k ≡ 9999
    → (days_in_year (pos y) ≤ day → day_count (pos (y + 1)) 1 1 + (day - days_in_year (pos y)) ≡ day_count (pos y) 1 1 + day
    → IsYearOf (day_count (pos (y + 1)) 1 1 + (day - days_in_year (pos y))) (year_from k (y + 1) (day - days_in_year (pos y))))
    → IsYearOf (day_count (pos y) 1 1 + day) (if b then (y, day) else year_from k (y + 1) (day - days_in_year (pos y)))
year_step k y day true is e later = (refl, grind (arith, nat_tests, is), omega arith)
year_step k y day false is e later =
    let past : days_in_year (pos y) ≤ day = grind (arith, nat_tests, is) in
    let next = day_count-next_year (pos y) (pos (y + 1)) (omega (arith, signed_arith)) (omega (arith, signed_arith)) in
    let same : day_count (pos (y + 1)) 1 1 + (day - days_in_year (pos y)) ≡ day_count (pos y) 1 1 + day = omega (arith, next) in
    subst (λ n. IsYearOf n (year_from k (y + 1) (day - days_in_year (pos y)))) same (later past same)

pub year_walk : (k y day : ℕ) → y + k ≡ 9999 → day_count (pos y) 1 1 + day < 7_304_850 → IsYearOf (day_count (pos y) 1 1 + day) (year_from k y day)
unfolding year_from
year_walk zero y day e low =
    let last : y ≡ 9999 = omega arith in
    rw last (refl, omega (arith, rw last at low, last_year, day_count-end), omega arith)
year_walk (suc k) y day e low =
    year_step k y day (nat_lt day (days_in_year (pos y))) refl e
    (λ past same. year_walk k (y + 1) (day - days_in_year (pos y)) (omega arith) (omega (arith, same)))

month_step : (k y m day : ℕ) (b : Bool) → nat_lt day (days_in_month (pos y) m) ≡ b → m + suc k ≡ 12 → 1 ≤ m
    → (days_in_month (pos y) m ≤ day → day_count (pos y) (m + 1) 1 + (day - days_in_month (pos y) m) ≡ day_count (pos y) m 1 + day
    → IsMonthOf y (day_count (pos y) (m + 1) 1 + (day - days_in_month (pos y) m)) (month_from k y (m + 1) (day - days_in_month (pos y) m)))
    → IsMonthOf y (day_count (pos y) m 1 + day) (if b then (m, day + 1) else month_from k y (m + 1) (day - days_in_month (pos y) m))
month_step k y m day true is e low later =
    let short : day < days_in_month (pos y) m = grind (arith, nat_tests, is) in
    (omega (arith, day_count-day (pos y) m 1 (day + 1) (omega arith) (omega arith)), low, omega arith, omega arith, omega (arith, short))
month_step k y m day false is e low later =
    let past : days_in_month (pos y) m ≤ day = grind (arith, nat_tests, is) in
    let next = day_count-next_month (pos y) m low in
    let same : day_count (pos y) (m + 1) 1 + (day - days_in_month (pos y) m) ≡ day_count (pos y) m 1 + day = omega (arith, next) in
    subst (λ n. IsMonthOf y n (month_from k y (m + 1) (day - days_in_month (pos y) m))) same (later past same)

pub month_walk : (k y m day : ℕ) → m + k ≡ 12 → 1 ≤ m → day_count (pos y) m 1 + day < day_count (pos y) 1 1 + days_in_year (pos y)
    → IsMonthOf y (day_count (pos y) m 1 + day) (month_from k y m day)
unfolding month_from
month_walk zero y m day e low within =
    let last : m ≡ 12 = omega arith in
    let short : day + 1 ≤ 31 = omega (arith, rw last at within, day_count-last_of_year (pos y), day_count-day (pos y) 12 1 31 (omega arith) (omega arith)) in
    rw last (omega (arith, day_count-day (pos y) 12 1 (day + 1) (omega arith) (omega arith)), omega arith, omega arith, omega arith, short)
month_walk (suc k) y m day e low within =
    month_step k y m day (nat_lt day (days_in_month (pos y) m)) refl e low
    (λ past same. month_walk k y (m + 1) (day - days_in_month (pos y) m) (omega arith) (omega arith) (omega (arith, same)))

-- the date of a day that is counted from 1 January 1970
pub date_of : (day : ℕ) → day ≤ 2_932_896 → (d : Date) × (epoch_day d ≡ pos day) × (d.year ≡ pos (year_of day).0) × (d.month ≡ (month_of day).0) × (d.day ≡ (month_of day).1)
date_of day low =
    let year = year_walk 8_029 1970 day (omega arith) (omega (arith, day_count-epoch)) in
    let y = (year_of day).0 in
    let month = month_walk 11 y 1 (year_of day).1 (omega arith) (omega arith) (omega (arith, year.1)) in
    let d : Date = record {
      year = pos y;
      month = (month_of day).0;
      day = (month_of day).1;
      year_in = (omega (arith, signed_arith), omega (arith, signed_arith, year.2));
      month_in = (month.1, month.2);
      day_in = (month.3, month.4);
    } in
    let count : day_count d.year d.month d.day ≡ 4_371_953 + day = month.0 ∙ year.0 ∙ ap (λ n. n + day) day_count-epoch in
    (d, omega (arith, signed_arith, days_from_civil-day_count d.year d.month d.day, count), refl, refl, refl)

-- the text of a date is that of its day number
pub same_day : (d : Date) (day : ℕ) → day ≤ 2_932_896 → epoch_day d ≡ pos day → printed.date_text d ≡ day_text day
same_day d day low is =
    let other = date_of day low in
    let same = epoch_day_injective d other.0 (is ∙ sym other.1) in
    rw (same.0 ∙ other.2, same.1 ∙ other.3, same.2 ∙ other.4) refl

-- the text of a time is that of its microseconds
pub same_clock : (t : Time) (micros : ℕ) → time_nanos t ≡ micros * 1_000 → printed.time_text (Some 6) t ≡ clock_text micros
same_clock t micros is =
    let hour : t.hour ≡ micros / 3_600_000_000 = omega (arith, is, t.minute_in, t.second_in, t.subsec_in) in
    let minute : t.minute ≡ micros / 60_000_000 % 60 = omega (arith, is, t.minute_in, t.second_in, t.subsec_in) in
    let second : t.second ≡ micros / 1_000_000 % 60 = omega (arith, is, t.minute_in, t.second_in, t.subsec_in) in
    let fraction : t.subsec_nanosecond ≡ micros % 1_000_000 * 1_000 = omega (arith, is, t.minute_in, t.second_in, t.subsec_in) in
    rw (hour, minute, second, fraction) refl

-- the day of a moment, and the time in it
pub day_and_time : (dt : DateTime) (moment : ℕ) → civil_nanos dt ≡ pos (moment * 1_000)
    → (epoch_day dt.date ≡ pos (moment / 86_400_000_000)) × (time_nanos dt.time ≡ moment % 86_400_000_000 * 1_000)
day_and_time dt moment total =
    let parts = civil_nanos-parts dt in
    let day : epoch_day dt.date ≡ pos (moment / 86_400_000_000) = omega (arith, signed_arith, total, parts, time_nanos_bound dt.time) in
    (day, omega (arith, signed_arith, total, parts, day, time_nanos_bound dt.time))

-- what is printed of the instant of a moment is the moment's date
pub same_date : (instant : Timestamp) (moment : ℕ) (text : List ℕ) → instant.nanosecond ≡ pos (moment * 1_000) → moment ≤ 253_402_207_200_999_999
    → IsPrinted instant text → text ≡ date_text moment
same_date instant moment text is low p =
    let dt = p.0 in
    let both = day_and_time dt moment (p.1 ∙ is) in
    p.2 ∙ ap (λ x. (x ++ 84 ∷ printed.time_text (Some 6) dt.time) ++ 90 ∷ []) (same_day dt.date (moment / 86_400_000_000) (omega arith) both.0)
    ∙ ap (λ x. (day_text (moment / 86_400_000_000) ++ 84 ∷ x) ++ 90 ∷ []) (same_clock dt.time (moment % 86_400_000_000) both.1)

-- a moment that isn't past the last date is printed as its date
pub is_dated : (moment : ℕ) → moment ≤ last_dated → date_text moment ≡ dated_text moment
is_dated moment low =
    let test : nat_le moment last_dated ≡ true = grind (arith, nat_tests) in
    rw test refl
