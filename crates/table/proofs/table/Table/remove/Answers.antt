use Rattle.std.proofs.Common.{None}
use Rattle.table.proofs.Slots.{slots_shaped}
use Rattle.table.proofs.table.Table.remove.Goals as goal

pub invariant_of-self : goal.invariant_of-self
invariant_of-self c = record { shaped = ∣ slots_shaped c.args.self.now c.args.task None (λ row e. absurd (cc)) ∣₁ }
