-- Agree: the table and the window answer alike on every slice (RULES.md, request 8).
use mathlib.Core.Path.{sym, ◌∙◌}
use contract.Lifetimes.{Lfts}
use borrow.Fn.Kinds.{Dens}
use Rattle.laws.proofs.Determined.{Agree}
use Rattle.utf8.proofs.table.by_table.Reads as by_table_reads
use Rattle.utf8.proofs.table.by_table.Kinds as by_table_kinds
use Rattle.utf8.proofs.window.by_window.Reads as by_window_reads

pub table_is_window : (κs : Lfts 1) (a : Dens κs by_table_kinds.ps) → Agree (by_table_reads.Post κs a) (by_window_reads.Post κs a)
table_is_window κs a r₁ r₂ s₁ s₂ p q = p ∙ sym q
