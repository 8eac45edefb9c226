use Rattle.table.proofs.Known.{knows}
use Rattle.table.proofs.table.Table.row.Goals as goal

pub returns-in_err-get-clause-shaped : goal.returns-in_err-get-clause-shaped
returns-in_err-get-clause-shaped c = knows c.args.self.now

pub returns-in_err-stored-clause-shaped : goal.returns-in_err-stored-clause-shaped
returns-in_err-stored-clause-shaped c = knows c.args.self.now

pub returns-clause-shaped : goal.returns-clause-shaped
returns-clause-shaped c = knows c.args.self.now
