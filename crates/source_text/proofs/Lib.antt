mod LineParts
mod Tables
