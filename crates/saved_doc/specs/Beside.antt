-- A document put together of its attributes and the rest.
use Rattle.document_model.specs.Documents.{Doc}
use Rattle.so_js.specs.declared.js.Js.{Js}
use Rattle.saved_doc.specs.declared.reading.Beside.{Beside}

abbrev pub doc_of : Beside → Js → Doc Js
doc_of b a = record {
  type_name = b.type_name;
  attributes = a;
  references = b.references;
  namespace = b.namespace;
  namespaces = b.namespaces;
  stamp = b.stamp;
  core = b.core;
  updated_at = b.updated_at;
  origin = b.origin;
}
