-- Which characters no text is printed with as they are.
use Rattle.std.specs.Prelude.{ℕ, ◌==◌, ◌&&◌, ◌||◌, nat_lt, nat_le, Bool}

-- whether a character is one of these, both ends included
abbrev pub is_between : ℕ → ℕ → ℕ → Bool
is_between first last c = nat_le first c && nat_le c last

-- whether a character is a control: of ASCII, or of those that follow it
abbrev pub is_control : ℕ → Bool
is_control c = nat_lt c 32 || is_between 127 159 c

-- whether it ends a line, or changes the direction of others: marks of direction among spaces of no width, separators, embeddings and
-- overrides, isolates among operators that aren't seen
abbrev pub changes_order : ℕ → Bool
changes_order c = c == 0x61c || (is_between 0x200b 0x200f c || (is_between 0x2028 0x202e c || is_between 0x2060 0x206f c))

-- whether it fills a place and shows nothing: fillers of Hangul
abbrev pub is_filler : ℕ → Bool
is_filler c = is_between 0x115f 0x1160 c || (c == 0x3164 || c == 0xffa0)

-- whether it isn't seen by itself: a soft hyphen, a filler, a byte order mark, an annotation's marks, and tags
abbrev pub is_unseen : ℕ → Bool
is_unseen c = c == 0xad || (is_filler c || (c == 0xfeff || (is_between 0xfff0 0xfffb c || is_between 0xe0000 0xe0fff c)))

-- whether a character is one that isn't printed as it is
abbrev pub is_hidden_character : ℕ → Bool
is_hidden_character c = is_control c || (changes_order c || is_unseen c)
