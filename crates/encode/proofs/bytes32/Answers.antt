-- `encode::bytes32` meets its contract: the lowest four bytes are those of what 32 bits hold.
use Prim.Native.Nat.{ℕ, ◌/◌, ◌%◌}
use mathlib.Core.Path.{◌≡◌, refl, ◌∙◌}
use native.Mathlib.Omega.{arith}
use Rattle.bson.specs.Grammar.{bytes32}
use Rattle.std.specs.Int.{to_le_bytes, w32}
use Rattle.encode.proofs.bytes32.Goals as goal

lowest : (n : ℕ) → to_le_bytes w32 (n % 0x1_0000_0000) ≡ bytes32 n
unfolding bytes32
lowest n =
    let m = n % 0x1_0000_0000 in
    let a : m % 256 ≡ n % 256 = omega arith in
    let b : m / 256 % 256 ≡ n / 256 % 256 = omega arith in
    let c : m / 65536 % 256 ≡ n / 65536 % 256 = omega arith in
    let d : m / 16777216 % 256 ≡ n / 16777216 % 256 = omega arith in
    rw (a, b, c, d) refl

pub returns : goal.returns
returns c = c.to_le_bytes.ensures ∙ lowest c.args.n
