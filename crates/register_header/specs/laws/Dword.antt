-- The bytes of a dword that was made of bytes.
use Rattle.std.specs.Prelude.{◌≡◌, ℕ, ◌+◌, ◌*◌, ◌/◌, ◌%◌, ◌<◌}
use Rattle.std.proofs.Common.{sym, ap, ◌∙◌, mod-eq_of_lt, shr-shr}
use Rattle.std.proofs.Math.Arith.{digits_div, digits_mod}
use Rattle.register_header.specs.definitions.Register.{dword_of}

module _ (a b c d : ℕ) (ha : a < 256) (hb : b < 256) (hc : c < 256) (hd : d < 256) where
  shr1 : dword_of a b c d / 256 ≡ (d * 256 + c) * 256 + b
  shr1 = digits_div ((d * 256 + c) * 256 + b) ha

  shr2 : dword_of a b c d / 65536 ≡ d * 256 + c
  shr2 = sym (shr-shr (dword_of a b c d) 8 8) ∙ ap (λ (x : ℕ). x / 256) shr1 ∙ digits_div (d * 256 + c) hb

  shr3 : dword_of a b c d / 16777216 ≡ d
  shr3 = sym (shr-shr (dword_of a b c d) 16 8) ∙ ap (λ (x : ℕ). x / 256) shr2 ∙ digits_div d hc

  pub byte0 : dword_of a b c d % 256 ≡ a
  byte0 = digits_mod ((d * 256 + c) * 256 + b) ha

  pub byte1 : dword_of a b c d / 256 % 256 ≡ b
  byte1 = ap (λ (x : ℕ). x % 256) shr1 ∙ digits_mod (d * 256 + c) hb

  pub byte2 : dword_of a b c d / 65536 % 256 ≡ c
  byte2 = ap (λ (x : ℕ). x % 256) shr2 ∙ digits_mod d hc

  pub byte3 : dword_of a b c d / 16777216 % 256 ≡ d
  byte3 = ap (λ (x : ℕ). x % 256) shr3 ∙ mod-eq_of_lt hd
