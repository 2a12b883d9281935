-- Numbers in bytes.
use Rattle.std.specs.Prelude.{ℕ, zero, suc, ◌+◌, ◌*◌, ◌/◌, ◌%◌, ◌^◌, List, [], ◌∷◌, Bool, true, false, cond, drop}
use Rattle.bytes_at.specs.declared.Width.{Width}
use Rattle.bytes_at.specs.declared.Width.TheVariants.{One, Two, Four, Eight}

-- the number that n bytes at the head of a list add to a, most significant byte first; 0 where the list ends before
unfoldable pub big_from : ℕ → ℕ → List ℕ → ℕ
big_from a zero l = a
big_from a (suc n) [] = 0
big_from a (suc n) (x ∷ l) = big_from (a * 256 + x) n l

-- the same, least significant byte first; `unit` is what a one in the next byte stands for
unfoldable pub little_from : ℕ → ℕ → ℕ → List ℕ → ℕ
little_from a unit zero l = a
little_from a unit (suc n) [] = 0
little_from a unit (suc n) (x ∷ l) = little_from (a + x * unit) (unit * 256) n l

-- the number in the n bytes at a place, big endian or little endian; 0 where the bytes end before
unfoldable pub uint_of : Bool → ℕ → List ℕ → ℕ → ℕ
uint_of true n s at = big_from 0 n (drop at s)
uint_of false n s at = little_from 0 1 n (drop at s)

-- how many bytes a width is
abbrev pub bytes_of : Width → ℕ
bytes_of One = 1
bytes_of Two = 2
bytes_of Four = 4
bytes_of Eight = 8

-- an Int or a uInt has 4 bytes, an Int64, where wide, has 8
abbrev pub int_width : Bool → Width
int_width wide = cond wide Eight Four

abbrev pub int_bytes : Bool → ℕ
int_bytes wide = bytes_of (int_width wide)

-- number k of those from a place on, `width` bytes each
abbrev pub number_in : Bool → ℕ → List ℕ → ℕ → ℕ → ℕ
number_in big width s at k = uint_of big width s (at + k * width)

-- n numbers from a place on
unfoldable pub numbers_at : Bool → ℕ → List ℕ → ℕ → ℕ → List ℕ
numbers_at big width s at zero = []
numbers_at big width s at (suc n) = uint_of big width s at ∷ numbers_at big width s (at + width) n

-- the n bytes of a number, most significant byte first
abbrev pub big_bytes : ℕ → ℕ → List ℕ
big_bytes zero x = []
big_bytes (suc n) x = (x / 256 ^ n) % 256 ∷ big_bytes n x
