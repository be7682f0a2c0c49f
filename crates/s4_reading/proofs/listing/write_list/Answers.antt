use Rattle.std.proofs.Common.{rules, ◌≡◌, ℕ, refl, subst}
use Rattle.std.specs.Io.KnownBytes.{Appends}
use Rattle.std.specs.List.{flat_map}
use Rattle.std.proofs.KnownBytes.{Appends-trans}
use Rattle.drive.specs.Fields.{state_in, store_of}
use Rattle.history_view.specs.Listing.{AreListedFrom}
use Rattle.s4_model.specs.Visible.{IsVisible}
use Rattle.s4_images.specs.Moments.{moment_asked}
use Rattle.s4_reading.specs.Listing.{head_of_list, line_asked, list_text}
use Rattle.s4_reading.specs.declared.forms.Form.{Form}
use Rattle.s4_reading.proofs.listing.write_list.Goals as goal

pub returns : goal.returns
returns g c =
    let s = state_in c.args.drive.now in
    let store = store_of c.args.drive.now in
    let asked = c.args.asked.now in
    let passed = g.W.Sink.passed in
    let form = c.over-form.result in
    let head : Appends (passed c.args.writer.now) (passed c.write_out.new.writer) (head_of_list form.json form.style) = search rules in
    let listed = c.in_ok-write_rows.ensures.rows in
    let moment : c.in_ok-moment.moment ≡ moment_asked s asked.at = c.in_ok-moment.ensures.moment in
    let lines = subst (λ t. Appends (passed c.write_out.new.writer) (passed c.write_rows.new.writer) (flat_map (line_asked s store asked form t) listed.rows)) moment listed.wrote in
    let all : Appends (passed c.args.writer.now) (passed c.write_rows.new.writer) (list_text s store asked form listed.rows) =
    Appends-trans (passed c.args.writer.now) (passed c.write_out.new.writer) (passed c.write_rows.new.writer) (head_of_list form.json form.style) (flat_map (line_asked s store asked form (moment_asked s asked.at)) listed.rows) head lines in
    record {
      lists = (
        refl,
        record {
          readable = subst (λ (o : ℕ). IsVisible s o (moment_asked s asked.at)) c.new.ensures c.in_ok-moment.ensures.readable;
          rows = listed.rows;
          listed = subst (λ t. AreListedFrom s store asked.deleted t 0 listed.rows) moment listed.listed;
          wrote = subst (λ (f : Form). Appends (passed c.args.writer.now) (passed c.write_rows.new.writer) (list_text s store asked f listed.rows)) c.over-form.ensures all;
        },
      );
    }
