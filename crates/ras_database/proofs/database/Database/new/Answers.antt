use Rattle.ras_database.proofs.Passing.{database_from}
use Rattle.ras_database.proofs.database.Database.new.Goals as goal

pub returns-clause-database : goal.returns-clause-database
returns-clause-database c =
    database_from c.args.schema.now c.args.raw c.in_default.ensures.none c.in_default-table_fault.ensures.none c.in_default-constant_fault.ensures.none
