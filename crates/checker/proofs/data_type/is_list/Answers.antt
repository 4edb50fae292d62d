use Rattle.checker.proofs.TypeTests.{is_list_kind, no_list_kind}
use Rattle.checker.proofs.data_type.is_list.Goals as goal

pub returns-in-List : goal.returns-in-List
returns-in-List c = let t = c.args.data_type in is_list_kind t.sheet.now t.place t.there c.kind.result c.kind.ensures c.in-List.is

pub returns-in_default : goal.returns-in_default
returns-in_default c = let t = c.args.data_type in no_list_kind t.sheet.now t.place t.there c.kind.result c.kind.ensures c.in_default.not-List c.in_default.not-LargeList c.in_default.not-FixedSizeList
