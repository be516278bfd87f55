-- The bytes of names and times are text.
use Rattle.std.proofs.Common.{◌≡◌, ◌<◌, ◌≤◌, ◌+◌, ◌/◌, ◌%◌, ℕ, zero, suc, Bool, true, false, ◌&&◌, List, [], ◌∷◌}
use Rattle.std.proofs.Common.{◌++◌, arith, refl, lit<}
use Rattle.std.specs.Prelude.{IsAscii, IsUtf8}
use Rattle.std.proofs.lemmas.Bool.Decides.{nat_tests}
use Rattle.std.proofs.lemmas.Str.{IsUtf8-from_ascii}
use Rattle.std.proofs.lemmas.Str.Ascii.{IsAscii-nil}
use Rattle.std.specs.List.{list_all}
use Rattle.share_base.specs.Name.{is_name, is_name_byte}
use Rattle.share_catalog.specs.Texts.{two_digits, four_digits, days_in, is_date, is_time_of_day, time_bytes}
use Rattle.share_catalog.specs.Times.{time_text}
use Rattle.share_catalog.specs.declared.time.Time.{Time}

and_first : (x y : Bool) → (x && y) ≡ true → x ≡ true
and_first true y h = refl
and_first false y h = h

and_second : (x y : Bool) → (x && y) ≡ true → y ≡ true
and_second true y h = h
and_second false y h = absurd (cc)

few : (b : ℕ) → is_name_byte b ≡ true → b < 128
few b h = grind (arith, nat_tests)

one_more : (b : ℕ) (bs : List ℕ) → b < 128 → IsAscii bs → IsAscii (b ∷ bs)
one_more b bs small rest zero = small
one_more b bs small rest (suc i) = rest i

bytes_are_ascii : (bs : List ℕ) → list_all is_name_byte bs ≡ true → IsAscii bs
bytes_are_ascii [] h = IsAscii-nil
bytes_are_ascii (b ∷ bs) h = one_more b bs (few b (and_first _ _ h)) (bytes_are_ascii bs (and_second _ _ h))

pub name_is_text : (name : List ℕ) → is_name name ≡ true → IsUtf8 name
name_is_text name is = IsUtf8-from_ascii name (bytes_are_ascii name (and_second _ _ is))

-- two digits after a mark
two_more : (mark n : ℕ) (bs : List ℕ) → mark < 128 → n < 100 → IsAscii bs → IsAscii (mark ∷ (two_digits n ++ bs))
two_more mark n bs sign small rest =
    let last : 48 + n % 10 < 128 = omega arith in
    let first : 48 + n / 10 < 128 = omega arith in
    one_more mark (two_digits n ++ bs) sign (one_more _ ((48 + n % 10) ∷ bs) first (one_more _ bs last rest))

four_more : (n : ℕ) (bs : List ℕ) → n < 10000 → IsAscii bs → IsAscii (four_digits n ++ bs)
four_more n bs small rest =
    let d : 48 + n % 10 < 128 = omega arith in
    let c : 48 + n / 10 % 10 < 128 = omega arith in
    let b : 48 + n / 100 % 10 < 128 = omega arith in
    let a : 48 + n / 1000 < 128 = omega arith in
    let last : List ℕ = (48 + n % 10) ∷ bs in
    let third : List ℕ = (48 + n / 10 % 10) ∷ last in
    let second : List ℕ = (48 + n / 100 % 10) ∷ third in
    one_more _ second a (one_more _ third b (one_more _ last c (one_more _ bs d rest)))

few_days : (year month : ℕ) → days_in year month ≤ 31
few_days year month = grind (arith, nat_tests)

time_is_ascii : (year month day hour minute second : ℕ) → is_date year month day ≡ true
    → is_time_of_day hour minute second ≡ true → IsAscii (time_bytes year month day hour minute second)
time_is_ascii year month day hour minute second date clock =
    let days = few_days year month in
    let end : List ℕ = 90 ∷ [] in
    let seconds : List ℕ = 58 ∷ (two_digits second ++ end) in
    let minutes : List ℕ = 58 ∷ (two_digits minute ++ seconds) in
    let hours : List ℕ = 84 ∷ (two_digits hour ++ minutes) in
    let month_days : List ℕ = 45 ∷ (two_digits day ++ hours) in
    let months : List ℕ = 45 ∷ (two_digits month ++ month_days) in
    four_more year months (grind (arith, nat_tests))
    (two_more 45 month month_days (lit< tt) (grind (arith, nat_tests))
    (two_more 45 day hours (lit< tt) (grind (arith, nat_tests))
    (two_more 84 hour minutes (lit< tt) (grind (arith, nat_tests))
    (two_more 58 minute seconds (lit< tt) (grind (arith, nat_tests))
    (two_more 58 second end (lit< tt) (grind (arith, nat_tests))
    (one_more 90 [] (lit< tt) IsAscii-nil))))))

pub time_is_text : (t : Time) → IsUtf8 (time_text t)
unfolding time_text
time_is_text t =
    IsUtf8-from_ascii (time_text t) (time_is_ascii t.year t.month t.day t.hour t.minute t.second t.date t.time_of_day)
