use Rattle.std.proofs.Common.{◌≡◌, List, [], ◌∷◌, ◌++◌, sym, ap, subst, ◌∙◌}
use Rattle.json.specs.Lex.{tokens}
use Rattle.json.specs.Print.{print}
use Rattle.json.specs.Token.{Token, begin_object, end_object}
use Rattle.json.specs.Tree.{json_tokens}
use Rattle.json_reports.specs.Values.{json_text, object_of}
use Rattle.json_reports.proofs.Closings.{object_tokens}
use Rattle.json_reports.proofs.ReadBack.{read_back}
use Rattle.json_reports.proofs.writing.ended.Goals as goal

pub returns : goal.returns
returns c fields none begun shallow =
    let closed = c.end_object.new.self in
    let all : closed.tokens ≡ json_tokens (object_of fields) = c.in_ok-end_object.ensures.ok
    ∙ ap (λ ts. ts ++ end_object ∷ []) begun ∙ ap (λ ts. begin_object ∷ ts) (sym (object_tokens fields)) in
    let bytes : c.into_inner-text.result.items ≡ json_text (object_of fields) = c.into_inner-text.ensures.items
    ∙ ap (λ bs. bs ++ print closed.tokens) (c.in_ok-end_object.ensures.room.0 ∙ none) ∙ ap print all in
    record {
      text = c.in_ok-push.ensures.items ∙ ap (λ bs. bs ++ 10 ∷ []) bytes;
      read = read_back (object_of fields)
          (subst (λ (ts : List Token). tokens (print ts) ≡ ts) all c.into_inner-text.ensures.reads_back) shallow;
    }
