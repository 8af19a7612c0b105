-- The configuration that a document tells, where nothing in it is at fault.
use Rattle.std.specs.Prelude.{ℕ, ◌/◌, false, [], map, None, unwrap_or, codes}
use Rattle.toml.specs.Data.{Members, get_member}
use Rattle.agent_conf.specs.declared.conf.AppConf.{AppConf}
use Rattle.agent_conf.specs.declared.conf.Conf.{Conf}
use Rattle.agent_conf.specs.declared.limits.TheConstants.{ROW_LIMIT}
use Rattle.agent_conf.specs.Document.{applications}
use Rattle.agent_conf.specs.Values.{capacity_in, default_in, life_in, listen_in, name_in, responses_in, rules_in, shards_in, size_in, workers_in}

abbrev pub application_of : Members → AppConf
application_of app = record {
  name = unwrap_or (name_in (get_member (codes "name") app)) [];
  rules = unwrap_or (rules_in (get_member (codes "rules") app)) [];
  responses = unwrap_or (responses_in (get_member (codes "responses") app)) false;
  life = unwrap_or (life_in (get_member (codes "life") app)) 0;
}

abbrev pub shards_of : Members → ℕ
shards_of top = unwrap_or (shards_in (get_member (codes "shards") top)) 0

abbrev pub capacity_of : Members → ℕ
capacity_of top =
    unwrap_or (unwrap_or (capacity_in (get_member (codes "capacity") top)) None) (ROW_LIMIT / shards_of top)

unfoldable pub conf_of : Members → Conf
conf_of top = record {
  size = unwrap_or (size_in (get_member (codes "size") top)) 0;
  capacity = capacity_of top;
  shards = shards_of top;
  workers = unwrap_or (workers_in (get_member (codes "workers") top)) 0;
  listen = unwrap_or (listen_in (get_member (codes "listen") top)) [];
  fallback = unwrap_or (default_in (get_member (codes "default") top)) None;
  apps = map application_of (applications top);
}
