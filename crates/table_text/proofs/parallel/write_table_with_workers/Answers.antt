use Rattle.std.proofs.Common.{◌≡◌, [], ◌++◌, refl, ap, ◌∙◌, subst, rules, append-nil}
use Rattle.std.specs.Io.KnownBytes.{Appends}
use Rattle.std.proofs.KnownBytes.{Appends-trans}
use Rattle.devices.proofs.Writing.{tells_front, tells_none}
use Rattle.channel_tables.specs.Tables.{ChannelTable, windows_of}
use Rattle.table_text.specs.TableText.{entries_then, end_then}
use Rattle.table_text.proofs.WrittenLines.{whole_text}
use Rattle.table_text.proofs.parallel.write_table_with_workers.Goals as goal

-- the lines of the table whose lines these are
same_rest : (t u : ChannelTable) → u ≡ t
    → entries_then (windows_of u) u.entries (end_then []) ≡ entries_then (windows_of t) t.entries (end_then [])
same_rest t u is = ap (λ v. entries_then (windows_of v) v.entries (end_then [])) is

pub returns-in_default : goal.returns-in_default
returns-in_default g c =
    let t = c.args.table.now in
    let rest = entries_then (windows_of t) t.entries (end_then []) in
    let text = ap (λ l. l ++ rest) (c.as_bytes.ensures.value ∙ c.in_ok-text.ensures.head)
    ∙ whole_text t c.args.separation in
    record {
      ok = tt;
      front = λ _. tells_front _ _ _ _ _ _ rest (tells_none _ _) c.in_default.ensures.front text;
      no_memory = search rules;
      failed_is = search rules;
    }

pub returns-in-Ok-write_rest : goal.returns-in-Ok-write_rest
returns-in-Ok-write_rest g c =
    let t = c.args.table.now in
    let text = (λ i. (c.as_bytes.ensures.value ∙ c.in_ok-text.ensures.head) i
    ++ same_rest t _ c.new-lines.ensures.table i)
    ∙ whole_text t c.args.separation in
    record {
      ok = subst (Appends _ _) text (Appends-trans _ _ _ _ _ c.in-Ok.ensures.ok c.in-Ok-write_rest.ensures.ok);
      front = search rules;
      no_memory = search rules;
      failed_is = search rules;
    }

pub returns : goal.returns
returns g c =
    let t = c.args.table.now in
    let text = (λ i. (c.as_bytes.ensures.value ∙ c.in_ok-text.ensures.head) i
    ++ same_rest t _ c.new-lines.ensures.table i)
    ∙ whole_text t c.args.separation in
    record {
      ok = tt;
      front = λ _. tells_front _ _ _ _ _ _ [] (_, c.in-Ok.ensures.ok, refl) c.in-Err.ensures.front
          (append-nil _ ∙ text);
      no_memory = search rules;
      failed_is = search rules;
    }
