use Rattle.checker.proofs.TypeTests.{is_map_kind, no_map_kind}
use Rattle.checker.proofs.data_type.is_map.Goals as goal

pub returns-in-Map : goal.returns-in-Map
returns-in-Map c = let t = c.args.data_type in is_map_kind t.sheet.now t.place t.there c.kind.result c.kind.ensures c.in-Map.is

pub returns-in_default : goal.returns-in_default
returns-in_default c = let t = c.args.data_type in no_map_kind t.sheet.now t.place t.there c.kind.result c.kind.ensures c.in_default.not-Map
