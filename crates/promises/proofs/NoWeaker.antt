-- What C is told of a call that writes is all that the call itself promises: its number and what it leaves, and besides the bytes used
-- (RULES.md, "Writer and joining").
use Prim.Native.Nat.{ℕ}
use mathlib.Core.Path.{◌≡◌, sym, ap, ◌∙◌}
use mathlib.Core.List.{List}
use Rattle.bson.specs.Writer as writer
use Rattle.c_answers.specs.declared.WrittenNumbers.{WrittenNumbers}
use Rattle.fringewell.specs.Left.{leaves, performs}

module _ (c : writer.Call) (state exit_state buffer exit : List ℕ) (n : WrittenNumbers)
    (promise : leaves n exit_state exit ≡ performs c state buffer) where
  -- of one call; what a session closes reads back by `writer_reads_back`, call by call
  pub performs_says : writer.written n.number exit_state exit ≡ writer.performed c state buffer
  unfolding performs
  performs_says = ap (λ (x : WrittenNumbers × writer.Desk). record { number = x.0.number; left = x.1 }) promise

  pub performs_used : n.number ≡ 0 → n.used ≡ writer.used exit_state
  unfolding performs
  performs_used z =
      let e = ap (λ (x : WrittenNumbers × writer.Desk). x.0.used) promise in
      let p = ap (λ (x : writer.Written). x.left.state) performs_says in
      let q = ap (λ (x : writer.Written). x.number) performs_says in
      e ∙ rw (sym q ∙ z) (ap writer.used (sym p))
