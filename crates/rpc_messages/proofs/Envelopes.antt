-- An envelope with one more member.
use Rattle.std.proofs.Common.{◌≡◌, ℕ, List, Bool, true, false, Option, Some, cond, bytes_eq, true≢false, refl, sym, ap, subst, ◌∙◌}
use Rattle.std.proofs.lemmas.Slice.Eq.{bytes_eq-Decides}
use Rattle.std.specs.Prelude.{codes}
use Rattle.serde_json.specs.Data.{Data, Members, put}
use Rattle.serde_json.specs.Find.{get_member}
use Rattle.serde_json.proofs.Views.{get_member-put, get_member-put_other}
use Rattle.rpc_messages.specs.Envelope.{SeenEnvelope, envelope_of}
use Rattle.rpc_messages.specs.Held.{name_of, with_member}
use Rattle.rpc_messages.specs.declared.read.names.Name.TheVariants.{Version, Method, Params, Id, Result, Error, Other}

by_test : (b : Bool) (k q : List ℕ) (d : Data) (ms : Members) → bytes_eq k q ≡ b → get_member q (put k d ms) ≡ cond b (Some d) (get_member q ms)
by_test true k q d ms same = let is : k ≡ q = (bytes_eq-Decides k q).0 same in ap (λ name. get_member name (put k d ms)) (sym is) ∙ get_member-put k d ms
by_test false k q d ms apart = get_member-put_other q k d ms (λ is. true≢false (sym ((bytes_eq-Decides k q).1 (sym is)) ∙ apart))

by_equal : (P : List ℕ → Type 0) (k q : List ℕ) (b : Bool) → bytes_eq k q ≡ b → P q → (bytes_eq k q ≡ false → P k) → P k
by_equal P k q true is found other = subst P (sym ((bytes_eq-Decides k q).0 is)) found
by_equal P k q false is found other = other is

test : (P : List ℕ → Type 0) (k q : List ℕ) → P q → (bytes_eq k q ≡ false → P k) → P k
test P k q found other = by_equal P k q (bytes_eq k q) refl found other

-- under that name the value d, and under any other what there was
abbrev at_name : List ℕ → List ℕ → Data → Option Data → Option Data
at_name name wanted d old = cond (bytes_eq name wanted) (Some d) old

abbrev with_at : List ℕ → Data → SeenEnvelope → SeenEnvelope
with_at name d e = record {
  version = at_name name (codes "jsonrpc") d e.version;
  method = at_name name (codes "method") d e.method;
  params = at_name name (codes "params") d e.params;
  id = at_name name (codes "id") d e.id;
  result = at_name name (codes "result") d e.result;
  error = at_name name (codes "error") d e.error;
}

get_member-at_name : (k q : List ℕ) (d : Data) (ms : Members) → get_member q (put k d ms) ≡ at_name k q d (get_member q ms)
get_member-at_name k q d ms = by_test _ k q d ms refl

envelope_of-at : (k : List ℕ) (d : Data) (ms : Members) → envelope_of (put k d ms) ≡ with_at k d (envelope_of ms)
envelope_of-at k d ms = λ i. record {
  version = get_member-at_name k (codes "jsonrpc") d ms i;
  method = get_member-at_name k (codes "method") d ms i;
  params = get_member-at_name k (codes "params") d ms i;
  id = get_member-at_name k (codes "id") d ms i;
  result = get_member-at_name k (codes "result") d ms i;
  error = get_member-at_name k (codes "error") d ms i;
}

-- what holds of each of the six names, and of one that is none of these, holds of any
each : (P : List ℕ → Type 0) → P (codes "jsonrpc") → P (codes "method") → P (codes "params") → P (codes "id") → P (codes "result") → P (codes "error")
    → ((k : List ℕ) → bytes_eq k (codes "jsonrpc") ≡ false → bytes_eq k (codes "method") ≡ false → bytes_eq k (codes "params") ≡ false → bytes_eq k (codes "id") ≡ false → bytes_eq k (codes "result") ≡ false → bytes_eq k (codes "error") ≡ false → P k)
    → (k : List ℕ) → P k
each P version method params id result error other k =
    test P k (codes "jsonrpc") version (λ no1.
    test P k (codes "method") method (λ no2.
    test P k (codes "params") params (λ no3.
    test P k (codes "id") id (λ no4.
    test P k (codes "result") result (λ no5.
    test P k (codes "error") error (λ no6. other k no1 no2 no3 no4 no5 no6))))))

by_names : (k : List ℕ) (d : Data) (e : SeenEnvelope) → with_at k d e ≡ with_member (name_of k) d e
by_names k d e =
    each (λ k. with_at k d e ≡ with_member (name_of k) d e) refl refl refl refl refl refl (λ k no1 no2 no3 no4 no5 no6.
    let same : with_at k d e ≡ e = λ i. record {
      version = cond (no1 i) (Some d) e.version;
      method = cond (no2 i) (Some d) e.method;
      params = cond (no3 i) (Some d) e.params;
      id = cond (no4 i) (Some d) e.id;
      result = cond (no5 i) (Some d) e.result;
      error = cond (no6 i) (Some d) e.error;
    } in
    let none : name_of k ≡ Other = λ i. cond (no1 i) Version (cond (no2 i) Method (cond (no3 i) Params (cond (no4 i) Id (cond (no5 i) Result (cond (no6 i) Error Other))))) in
    same ∙ sym (ap (λ n. with_member n d e) none)) k

-- what is put into the members goes into the envelope
pub envelope_of-put : (k : List ℕ) (d : Data) (ms : Members) → envelope_of (put k d ms) ≡ with_member (name_of k) d (envelope_of ms)
envelope_of-put k d ms = envelope_of-at k d ms ∙ by_names k d (envelope_of ms)
