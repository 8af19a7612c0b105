-- A request, field by field.
use Rattle.std.proofs.Common.{◌≡◌, ℕ, List, Option}
use Rattle.web_parts.specs.declared.address.Address.{Address}
use Rattle.spop_web.specs.declared.request.Asked.{Asked}

abbrev pub asked : List ℕ → List ℕ → Address → Option ℕ → Address → Option ℕ → List ℕ → List ℕ → List ℕ → List ℕ → List ℕ → List ℕ → Asked
asked app id src src_port dst dst_port method path query version headers body = record {
  app = app;
  request = record { id = id; src = src; src_port = src_port; dst = dst; dst_port = dst_port; method = method; path = path; query = query; version = version; headers = headers; body = body };
}

pub fields : {app app' id id' method method' path path' query query' version version' headers headers' body body' : List ℕ} {src src' dst dst' : Address} {src_port src_port' dst_port dst_port' : Option ℕ} →
    app ≡ app' → id ≡ id' → src ≡ src' → src_port ≡ src_port' → dst ≡ dst' → dst_port ≡ dst_port' → method ≡ method' → path ≡ path' → query ≡ query' → version ≡ version' → headers ≡ headers' → body ≡ body' →
    asked app id src src_port dst dst_port method path query version headers body ≡ asked app' id' src' src_port' dst' dst_port' method' path' query' version' headers' body'
fields p q a b d e f g h i j k = cc
