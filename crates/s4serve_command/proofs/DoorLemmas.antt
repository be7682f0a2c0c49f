-- How the words of doors are read.
use Rattle.std.proofs.Common.{◌≡◌, ◌<◌, ◌+◌, ◌++◌, ℕ, List, [], ◌∷◌, Option, Some, None, codes, length, sym, ap, ◌∙◌, ◌≢◌, subst, arith, true, false, zero, suc, get_or, take, drop, option_map, unwrap_or}
use Rattle.std.specs.Prelude.{MatchOption}
use Rattle.std.specs.Option.{IfNone}
use Rattle.std.specs.List.{AllZip}
use Rattle.std.specs.Borrow.{Bor}
use Rattle.std.specs.Str.{bytes_eq}
use Rattle.std.specs.Str.Pattern.{FindsTextPrefix, StripsPrefix}
use Rattle.std.proofs.lemmas.Slice.Eq.{bytes_eq-Decides}
use Rattle.std.proofs.lemmas.List.{length-map, take_more, map-append, append_cancel_left, take-append-drop}
use Rattle.std.proofs.lemmas.Slice.Zip.{AllZip-long}
use Rattle.clap.specs.Walk.{Text, texts}
use Rattle.s4_types.specs.declared.requests.Role.{Role}
use Rattle.s4_types.specs.declared.requests.Role.TheVariants.{Client, Admin}
use Rattle.s4serve_command.specs.declared.doors.Door.{Door}
use Rattle.s4serve_command.specs.CommandLine.{AreApart, AreDoors, IsDoor, IsNoneOf, door_front, folders_of}

-- what `strip_prefix` says of a word and a text
abbrev IsStripped : Text → Text → Option (Bor Text) → Type 0
IsStripped word front r = MatchOption r (FindsTextPrefix front word None) (λ x. StripsPrefix (FindsTextPrefix front) word x.now)

-- where nothing is stripped, no more of the word comes after the front
pub after_none : (word front : Text) (r : Option (Bor Text)) → IsStripped word front r → r ≡ None → (rest : Text) → word ≡ front ++ rest → ⊥
after_none word front None h none = h
after_none word front (Some x) h none = absurd cc

pub after_some : (word front : Text) (r : Option (Bor Text)) (rest : Bor Text) → IsStripped word front r → r ≡ Some rest → word ≡ front ++ rest.now
after_some word front None rest h is = absurd cc
after_some word front (Some x) rest h is =
    let same : x ≡ rest = cc in h.1.1 ∙ ap (λ text. front ++ text) (sym h.2) ∙ ap (λ (text : Bor Text). front ++ text.now) same

-- where nothing comes after it, nothing else does
pub after_empty : (word front text rest : Text) → word ≡ front ++ text → length text ≡ 0 → word ≡ front ++ rest → 0 < length rest → ⊥
after_empty word front text rest is empty other some =
    let same : text ≡ rest = append_cancel_left front text rest (sym is ∙ other) in
    let none : length rest ≡ 0 = sym (ap length same) ∙ empty in omega (arith, none, some)

no_front : (word folder : Text) (role : Role) → ((rest : Text) → word ≡ codes "client=" ++ rest → 0 < length rest → ⊥)
    → ((rest : Text) → word ≡ codes "admin=" ++ rest → 0 < length rest → ⊥) → word ≡ door_front role ++ folder → 0 < length folder → ⊥
no_front word folder Client client admin h some = client folder h some
no_front word folder Admin client admin h some = admin folder h some

-- a word that is no client's door and no administrator's is no door
pub no_door : (word : Text) (r : Option Door) → ((rest : Text) → word ≡ codes "client=" ++ rest → 0 < length rest → ⊥)
    → IfNone r ((folder : Text) → word ≡ codes "admin=" ++ folder → 0 < length folder → ⊥) → IfNone r ((door : Door) → IsDoor word door → ⊥)
no_door word None client admin = λ door h. no_front word door.folder.now door.role client admin h.is h.named
no_door word (Some door) client admin = tt

-- no word is both a client's door and an administrator's
not_both : (one other : Text) → codes "client=" ++ one ≡ codes "admin=" ++ other → ⊥
not_both one other e = let first : 99 ≡ 97 = ap (λ (text : Text). get_or text 0 0) e in absurd (omega (arith, first))

same_text : (word one other : Text) (role role' : Role) → word ≡ door_front role ++ one → word ≡ door_front role' ++ other → one ≡ other
same_text word one other Client Client h k = append_cancel_left (codes "client=") one other (sym h ∙ k)
same_text word one other Admin Admin h k = append_cancel_left (codes "admin=") one other (sym h ∙ k)
same_text word one other Client Admin h k = absurd (not_both one other (sym h ∙ k))
same_text word one other Admin Client h k = absurd (not_both other one (sym k ∙ h))

-- a word has one folder
same_folder : (word : Text) (door other : Door) → IsDoor word door → IsDoor word other → door.folder.now ≡ other.folder.now
same_folder word door other h k = same_text word door.folder.now other.folder.now door.role other.role h.is k.is

-- one folder more that none of the others is
pub apart_more : (texts : List Text) (text : Text) → AreApart texts → IsNoneOf texts text → AreApart (texts ++ text ∷ [])
apart_more [] text apart none = (tt, tt)
apart_more (t ∷ ts) text apart none = (others ts apart.0, apart_more ts text apart.1 none.1)
  where
    others : (us : List Text) → IsNoneOf us t → IsNoneOf (us ++ text ∷ []) t
    others [] n = ((λ e. none.0 (sym e)), tt)
    others (u ∷ us) n = (n.0, others us n.1)

-- the last of texts that are apart is none of the others
pub apart_last : (texts : List Text) (text : Text) → AreApart (texts ++ text ∷ []) → IsNoneOf texts text
apart_last [] text apart = tt
apart_last (t ∷ ts) text apart = ((λ e. others ts apart.0 (sym e)), apart_last ts text apart.1)
  where
    others : (us : List Text) → IsNoneOf (us ++ text ∷ []) t → t ≢ text
    others [] n = n.0
    others (u ∷ us) n = others us n.1

-- the doors of the first words have folders that are apart, where those of all words do
pub apart_front : (words others : List Text) (front doors : List Door) → AllZip IsDoor words front → AllZip IsDoor (words ++ others) doors
    → AreApart (folders_of doors) → AreApart (folders_of front)
apart_front [] others [] doors h k apart = tt
apart_front [] others (x ∷ front) doors h k apart = absurd h
apart_front (w ∷ words) others [] doors h k apart = absurd h
apart_front (w ∷ words) others (x ∷ front) [] h k apart = absurd k
apart_front (w ∷ words) others (x ∷ front) (y ∷ doors) h k apart =
    (none words others front doors h.1 k.1 apart.0, apart_front words others front doors h.1 k.1 apart.1)
  where
    none : (ws os : List Text) (fs ds : List Door) → AllZip IsDoor ws fs → AllZip IsDoor (ws ++ os) ds
        → IsNoneOf (folders_of ds) y.folder.now → IsNoneOf (folders_of fs) x.folder.now
    none [] os [] ds a b n = tt
    none [] os (f ∷ fs) ds a b n = absurd a
    none (v ∷ ws) os [] ds a b n = absurd a
    none (v ∷ ws) os (f ∷ fs) [] a b n = absurd b
    none (v ∷ ws) os (f ∷ fs) (d ∷ ds) a b n =
        let here : x.folder.now ≡ y.folder.now = same_folder w x y h.0 k.0 in
        let there : f.folder.now ≡ d.folder.now = same_folder v f d a.0 b.0 in
        ((λ e. n.0 (sym here ∙ e ∙ there)), none ws os fs ds a.1 b.1 n.1)

-- one text more that another one isn't
none_more : (texts : List Text) (text other : Text) → IsNoneOf texts text → text ≢ other → IsNoneOf (texts ++ other ∷ []) text
none_more [] text other none apart = (apart, tt)
none_more (t ∷ ts) text other none apart = (none.0, none_more ts text other none.1 apart)

none_at : (doors : List Door) (i : ℕ) (d : Door) (text : Text) → i < length doors → IsNoneOf (folders_of doors) text → text ≢ (get_or doors i d).folder.now
none_at [] i d text lt none = absurd (omega arith)
none_at (x ∷ xs) zero d text lt none = none.0
none_at (x ∷ xs) (suc i) d text lt none = none_at xs i d text (omega arith) none.1

folders-push : (doors : List Door) (door : Door) → folders_of (doors ++ door ∷ []) ≡ folders_of doors ++ door.folder.now ∷ []
folders-push doors door = map-append (λ (d : Door). d.folder.now) doors (door ∷ [])

pub is_text : (one other : Text) → bytes_eq one other ≡ true → one ≡ other
is_text one other h = (bytes_eq-Decides one other).0 h

pub is_other_text : (one other : Text) → bytes_eq one other ≡ false → one ≡ other → ⊥
is_other_text one other h e = let same = (bytes_eq-Decides one other).1 e in absurd cc

-- a folder that one of the doors has
pub is_there : (doors : List Door) (i : ℕ) (d : Door) (text : Text) → i < length doors → (get_or doors i d).folder.now ≡ text → IsNoneOf (folders_of doors) text → ⊥
is_there doors i d text lt is none = none_at doors i d text lt none (sym is)

-- a folder that none of the first doors has, nor the next one
pub not_there : (doors : List Door) (i : ℕ) (d : Door) (text : Text) → i < length doors → ((get_or doors i d).folder.now ≡ text → ⊥) → IsNoneOf (folders_of (take i doors)) text
    → IsNoneOf (folders_of (take (i + 1) doors)) text
not_there doors i d text lt other none =
    let more : folders_of (take (i + 1) doors) ≡ folders_of (take i doors) ++ (get_or doors i d).folder.now ∷ [] =
    ap folders_of (take_more doors i d lt) ∙ folders-push (take i doors) (get_or doors i d) in
    subst (λ (ts : List Text). IsNoneOf ts text) (sym more) (none_more (folders_of (take i doors)) text (get_or doors i d).folder.now none (λ e. other (sym e)))

pub folders_more : (doors : List Door) (door : Door) → AreApart (folders_of doors) → IsNoneOf (folders_of doors) door.folder.now
    → AreApart (folders_of (doors ++ door ∷ []))
folders_more doors door apart none = subst AreApart (sym (folders-push doors door)) (apart_more (folders_of doors) door.folder.now apart none)

-- the texts that the reader finds are those that are there
pub found_texts : (o : Option (Bor (List (Bor Text)))) (words : Bor (List (Bor Text))) (given : Option (List Text)) → o ≡ Some words
    → option_map (λ s. texts s.now) o ≡ given → texts words.now ≡ unwrap_or given []
found_texts o words given is same = ap (λ (t : Option (List Text)). unwrap_or t []) (sym (ap (option_map (λ s. texts s.now)) is) ∙ same)

-- where it finds none, none are there
pub found_none : (o : Option (Bor (List (Bor Text)))) (given : Option (List Text)) → o ≡ None
    → option_map (λ s. texts s.now) o ≡ given → [] ≡ unwrap_or given []
found_none o given is same = ap (λ (t : Option (List Text)). unwrap_or t []) (sym (ap (option_map (λ s. texts s.now)) is) ∙ same)

-- no words are no doors
pub no_words : (doors : List Door) → AreDoors [] doors → ⊥
no_words [] h = absurd (omega (arith, h.some))
no_words (door ∷ doors) h = h.each

-- one word more, and its door
pub doors_more : (words : List (Bor Text)) (i : ℕ) (d : Bor Text) (doors : List Door) (door : Door)
    → i < length words → AllZip IsDoor (texts (take i words)) doors → IsDoor (get_or words i d).now door
    → AllZip IsDoor (texts (take (i + 1) words)) (doors ++ door ∷ [])
doors_more words i d doors door lt each here =
    let more : texts (take (i + 1) words) ≡ texts (take i words) ++ ((get_or words i d).now ∷ []) =
    ap texts (take_more words i d lt) ∙ map-append (λ s. s.now) (take i words) (get_or words i d ∷ []) in
    subst (λ (ts : List Text). AllZip IsDoor ts (doors ++ door ∷ [])) (sym more) (push (texts (take i words)) doors each)
  where
    push : (ts : List Text) (ds : List Door) → AllZip IsDoor ts ds → AllZip IsDoor (ts ++ (get_or words i d).now ∷ []) (ds ++ door ∷ [])
    push [] [] e = (here, tt)
    push [] (x ∷ ds) e = absurd e
    push (t ∷ ts) [] e = absurd e
    push (t ∷ ts) (x ∷ ds) e = (e.0, push ts ds e.1)

-- a word that is no door
pub no_doors : (words : List (Bor Text)) (i : ℕ) (d : Bor Text) → i < length words
    → ((door : Door) → IsDoor (get_or words i d).now door → ⊥) → (doors : List Door) → AreDoors (texts words) doors → ⊥
no_doors words i d lt never doors h = go words i lt never doors h.each
  where
    go : (ws : List (Bor Text)) (k : ℕ) → k < length ws → ((x : Door) → IsDoor (get_or ws k d).now x → ⊥) → (ds : List Door) → AllZip IsDoor (texts ws) ds → ⊥
    go [] k lt no_one ds e = absurd (omega arith)
    go (w ∷ ws) k lt no_one [] e = e
    go (w ∷ ws) zero lt no_one (x ∷ ds) e = no_one x e.0
    go (w ∷ ws) (suc k) lt no_one (x ∷ ds) e = go ws k (omega arith) no_one ds e.1

-- a word whose folder an earlier door has
pub door_twice : (words : List (Bor Text)) (i : ℕ) (d : Bor Text) (front : List Door) (door : Door) → i < length words
    → AllZip IsDoor (texts (take i words)) front → IsDoor (get_or words i d).now door → (IsNoneOf (folders_of front) door.folder.now → ⊥)
    → (doors : List Door) → AreDoors (texts words) doors → ⊥
door_twice words i d front door lt each here known doors h =
    let whole : texts words ≡ texts (take (i + 1) words) ++ texts (drop (i + 1) words) =
    ap texts (sym (take-append-drop (i + 1) words)) ∙ map-append (λ s. s.now) (take (i + 1) words) (drop (i + 1) words) in
    let more = doors_more words i d front door lt each here in
    let all = subst (λ (ts : List Text). AllZip IsDoor ts doors) whole h.each in
    let apart = apart_front (texts (take (i + 1) words)) (texts (drop (i + 1) words)) (front ++ door ∷ []) doors more all h.apart in
    known (apart_last (folders_of front) door.folder.now (subst AreApart (folders-push front door) apart))

-- there are as many doors as words
pub as_many : (words : List (Bor Text)) (doors : List Door) → AllZip IsDoor (texts words) doors → length doors ≡ length words
as_many words doors each =
    let mapped : length (texts words) ≡ length words = simp length-map in AllZip-long IsDoor (texts words) doors each ∙ mapped
