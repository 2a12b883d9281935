-- What the code knows of a file whose header and length passed.
use Rattle.std.specs.Prelude.{List, ℕ, ◌+◌, ◌*◌, ◌≤◌, length}

-- The file has nb buckets of this size, both within "Ranges: bucket size 16 to 1,048,576; buckets 0 to 4,096".
pub record Area (f : List ℕ) (size nb : ℕ) : Type 0 where
  pub holds : 512 + nb * size ≤ length f
  pub least : 16 ≤ size
  pub most : size ≤ 1048576
  pub few : nb ≤ 4096
