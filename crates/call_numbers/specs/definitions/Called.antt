-- What a call from C leaves behind: what it returns, the eight numbers of its answer, and both images at its end.
use Rattle.std.specs.Prelude.{ℕ, List}
use Rattle.register_image.specs.definitions.Image.{Images, images}
use Rattle.call_numbers.specs.definitions.Numbers.{zeros}

-- 0 or the refusal's number, eight numbers, and both images
pub record Called : Type 0 where
  pub code : ℕ
  pub numbers : List ℕ
  pub after : Images

abbrev pub called : ℕ → List ℕ → List ℕ → List ℕ → Called
called code numbers b d = record { code = code; numbers = numbers; after = images b d }

-- a refusal: its number is returned, the answer is all 0, both images are untouched
abbrev pub refused_call : ℕ → Images → Called
refused_call refusal im = record { code = refusal; numbers = zeros; after = im }
