use Rattle.planner.proofs.Schemas.{schema_of_the_file}
use Rattle.planner.proofs.projection_read_plan.schema_is_of_the_file.Goals as goal

pub returns : goal.returns
returns c = schema_of_the_file
